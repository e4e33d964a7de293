-- One more.
use Rattle.fw_hand.proofs.Rows.{pushed_number}
use Rattle.fw_hand.proofs.slots.add_clients.Goals as goal

pub loop-client-preserved : goal.loop-client-preserved
loop-client-preserved c = rw c.in_ok-push.ensures.ok (pushed_number c.loop-client.client c.args.clients.now c.loop-client.clients c.loop-client.invariant)
