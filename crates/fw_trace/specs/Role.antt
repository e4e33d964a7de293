-- A role is what its seat keeps, and what it keeps and sends after an input.
use Rattle.std.specs.Prelude.{List, [], ◌∷◌}
use Rattle.fw_base.specs.declared.seat.Seat.{Seat}
use Rattle.fw_trace.specs.declared.Input.{Input}

pub record Role (S M O : Type 0) : Type 0 where
  pub start : S
  pub next : S → Input M O → S × List (Seat × M)

-- what is kept after a history, whose newest input stands first
abbrev pub kept : {S M O : Type 0} → Role S M O → List (Input M O) → S
kept role [] = role.start
kept role (input ∷ history) = (role.next (kept role history) input).0

-- what is sent on the newest input
abbrev pub sends : {S M O : Type 0} → Role S M O → List (Input M O) → List (Seat × M)
sends role [] = []
sends role (input ∷ history) = (role.next (kept role history) input).1
