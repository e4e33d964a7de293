-- The client's rule, whatever its messages are.
use Rattle.std.specs.Prelude.{ℕ, ◌+◌, length, Bool, true, false, ◌&&◌, nat_eq, nat_lt, List, [], ◌∷◌, ◌++◌, map, Option, Some, None, if◌then◌else◌}
use Rattle.fw_base.specs.declared.seat.Seat.{Seat}
use Rattle.fw_trace.specs.declared.Input.{Input}
use Rattle.fw_trace.specs.declared.Input.TheVariants.{Heard, Tick, Submitted}
use Rattle.fw_trace.specs.declared.Told.{Told}
use Rattle.fw_trace.specs.Role.{Role}

-- what a client asks: its request of a stamp, and what a message from a seat tells it
pub record Speech (M O R : Type 0) : Type 0 where
  pub most : ℕ  -- how many submissions it takes
  pub request : ℕ → O → M
  pub told : Seat → M → Option (Told R)
  pub to : List Seat  -- all agreement nodes

pub record Client (O R : Type 0) : Type 0 where
  pub asked : List O  -- the request of stamp k is the k-th that was asked; the newest first
  pub pending : Bool  -- whether the newest isn't answered
  pub waiting : List O  -- in order
  pub accepted : List (Told R)  -- the newest first

abbrev pub to_all : {M : Type 0} → List Seat → M → List (Seat × M)
to_all seats m = map (λ seat. (seat, m)) seats

-- how many submissions were taken, and the newest stamp
abbrev pub taken : {O R : Type 0} → Client O R → ℕ
taken c = length c.asked + length c.waiting

abbrev pub stamp : {O R : Type 0} → Client O R → ℕ
stamp c = length c.asked

abbrev pub ask : {M O R : Type 0} → Speech M O R → Client O R → O → Client O R × List (Seat × M)
ask sp c op = (record c { asked = op ∷ c.asked; pending = true }, to_all sp.to (sp.request (stamp c + 1) op))

-- the next that waits is asked
abbrev pub go_on : {M O R : Type 0} → Speech M O R → Client O R → List O → Client O R × List (Seat × M)
go_on sp c [] = (c, [])
go_on sp c (op ∷ waiting) = ask sp (record c { waiting = waiting }) op

abbrev pub submit : {M O R : Type 0} → Speech M O R → Client O R → O → Bool → Client O R × List (Seat × M)
submit sp c op false = ask sp c op
submit sp c op true = (record c { waiting = c.waiting ++ op ∷ [] }, [])

-- a reply with the pending stamp is accepted
abbrev pub hear : {M O R : Type 0} → Speech M O R → Client O R → Option (Told R) → Client O R × List (Seat × M)
hear sp c None = (c, [])
hear sp c (Some told) =
    if c.pending && nat_eq told.stamp (stamp c)
    then go_on sp (record c { pending = false; accepted = told ∷ c.accepted }) c.waiting
    else (c, [])

abbrev pub again : {M O R : Type 0} → Speech M O R → Client O R → List O → List (Seat × M)
again sp c [] = []
again sp c (op ∷ asked) = if c.pending then to_all sp.to (sp.request (stamp c) op) else []

abbrev pub client_next : {M O R : Type 0} → Speech M O R → Client O R → Input M O → Client O R × List (Seat × M)
client_next sp c (Heard from m) = hear sp c (sp.told from m)
client_next sp c Tick = (c, again sp c c.asked)
client_next sp c (Submitted op) = if nat_lt (taken c) sp.most then submit sp c op c.pending else (c, [])

abbrev pub client_role : {M O R : Type 0} → Speech M O R → Role (Client O R) M O
client_role sp = record {
  start = record { asked = []; pending = false; waiting = []; accepted = [] };
  next = client_next sp;
}
