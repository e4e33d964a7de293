-- One view more.
use Rattle.std.proofs.Common.{map}
use Rattle.fw_list.specs.Lists.{numbers_from}
use Rattle.fw_base.specs.declared.slot.Slot.TheVariants as slots
use Rattle.fw_hand.proofs.Rows.{pushed_row}
use Rattle.fw_hand.proofs.slots.add_all_commits.Goals as goal

pub loop-view-preserved : goal.loop-view-preserved
loop-view-preserved c =
    rw c.in_ok-add_commits.ensures
    (pushed_row (λ v. map (λ n. slots.Commit v n c.args.agree) (numbers_from 1 c.args.params.now.numbers)) c.loop-view.view c.args.slots.now c.loop-view.slots c.loop-view.invariant)
