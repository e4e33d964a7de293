-- Words for what is looked for in lists, and for the frames that a rule hears.
use Rattle.std.specs.Prelude.{◌&&◌, List, [], ◌∷◌, Option, Some, None}
use Rattle.fw_base.specs.declared.seat.Seat.{Seat}
use Rattle.fw_base.specs.Seats.{fits, linked}
use Rattle.fw_frame.specs.View.{Frame}
use Rattle.fw_means.specs.Means.{when}
use Rattle.fw_rules.specs.Means.{Means}

-- the first of a list at which something is found
abbrev pub first_some : {A B : Type 0} → (A → Option B) → List A → Option B
first_some f [] = None
first_some f (x ∷ xs) = elim (f x) [ Some y ↦ Some y | None ↦ first_some f xs ]

-- the valid frame that a message from a linked seat is
abbrev pub admitted : {M : Type 0} → Means M → Seat → Seat → M → Option Frame
admitted k seat from m = when (fits k.params from && linked k.params from seat) (k.read m)
