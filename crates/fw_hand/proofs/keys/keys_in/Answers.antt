-- One client's keys more.
use Rattle.std.proofs.Common.{arith}
use Rattle.fw_hand.proofs.Along.{one_more_at, no_item_at}
use Rattle.fw_hand.proofs.keys.keys_in.Goals as goal

pub returns-in_default : goal.returns-in_default
returns-in_default c = no_item_at c.items-client-items.result.now c.loop-client.client-index 0 (omega arith) c.loop-client.invariant c.in_default.ensures

pub loop-client-preserved : goal.loop-client-preserved
loop-client-preserved c = rw c.in_ok-push.ensures.ok (one_more_at c.items-client-items.result.now c.loop-client.client-index 0 (omega arith) c.loop-client.invariant c.in-Some.ensures)
