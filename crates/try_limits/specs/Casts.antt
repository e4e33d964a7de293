-- The toy nodes of a deployment.
use Rattle.std.specs.Prelude.{◌≡◌, false, List, [], ◌∷◌}
use Rattle.fw_base.specs.declared.params.Params.{Params}
use Rattle.fw_base.specs.declared.seat.Seat.{Seat}
use Rattle.try_limits.specs.Toys.{Echoer}

-- a running node of a seat
pub record IsNew (p : Params) (own : Seat) (n : Echoer) : Type 0 where
  pub sizes : n.params ≡ p
  pub seat_is : n.own ≡ own
  pub running : n.stopped ≡ false

-- there is one, and it is that of the seat
abbrev pub IsOnly : Params → Seat → List Echoer → Type 0
IsOnly p own nodes = (n : Echoer) × (nodes ≡ n ∷ []) × IsNew p own n
