-- One more seat of the kind.
use Rattle.fw_base.specs.declared.seat.Seat.TheVariants as seats
use Rattle.fw_node.proofs.Sending.{numbered_more}
use Rattle.fw_node.proofs.seats.executor_seats.Goals as goal

pub loop-k-preserved : goal.loop-k-preserved
loop-k-preserved c = rw c.in_ok-push.ensures.ok (numbered_more seats.Exec c.loop-k.all _ c.loop-k.k _ c.loop-k-test.true c.loop-k.invariant)
