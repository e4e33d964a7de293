-- The greatest so far, and that of the nodes that are left.
use Rattle.std.proofs.Common.{◌≡◌, List}
use Rattle.std.specs.Prelude.{max, not}
use Rattle.fw_base.specs.declared.seat.Seat.{Seat}
use Rattle.fw_base.specs.declared.seat.Seat.TheVariants.{Agree}
use Rattle.fw_step.specs.Fitting.{is_faulty}
use Rattle.fw_hand.specs.Hands.{PlainHand}
use Rattle.fw_rules.specs.World.{Deployed}
use Rattle.fw_seen.specs.Summary.{view_at, greatest_view}
use Rattle.fw_world.specs.Played.{ArePlayed}
use Rattle.fw_world.proofs.Views.{left}
use Rattle.fw_world.proofs.viewing.greatest_view.Given as goal

abbrev pub invariant-loop-i : goal.invariant-loop-i
invariant-loop-i l = (d : Deployed) (faulty : List Seat) (keys : PlainHand) → ArePlayed (λ n. n.hand) (λ n. n.hand) d faulty l.world.seen keys
    → max l.greatest (left (λ k. not (is_faulty faulty (Agree k))) (view_at d l.world.seen.trace) l.i l.count) ≡ greatest_view d faulty l.world.seen.trace
