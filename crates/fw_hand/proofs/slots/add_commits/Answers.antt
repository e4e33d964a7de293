-- One more.
use Rattle.std.proofs.Common.{◌+◌, arith}
use Rattle.fw_base.specs.declared.slot.Slot.TheVariants as slots
use Rattle.fw_hand.proofs.Rows.{pushed}
use Rattle.fw_hand.proofs.slots.add_commits.Goals as goal

pub loop-k-preserved : goal.loop-k-preserved
loop-k-preserved c = rw c.in_ok-push.ensures.ok (pushed (λ n. slots.Commit c.args.view n c.args.agree) 1 c.loop-k.k (c.loop-k.k + 1) c.args.slots.now c.loop-k.slots (omega arith) c.loop-k.invariant)
