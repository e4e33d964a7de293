-- One view change more.
use Rattle.std.proofs.Common.{sym, ◌∙◌}
use Rattle.fw_frame.specs.Plain.{plain_change}
use Rattle.fw_frame.specs.View.{viewed_change}
use Rattle.fw_frame.specs.Writing.{IsWritableChange}
use Rattle.fw_owned.specs.Pieces.{change_of}
use Rattle.fw_owned.proofs.Lists.{lent_more, len_more, all_more, twice}
use Rattle.fw_owned.proofs.proofs.lent_changes.Goals as goal

pub loop-change-preserved : goal.loop-change-preserved
loop-change-preserved c =
    let lent = c.loop-change.lent in
    let new = c.push.new.self in
    let one = c.in_ok-lent.field-0 in
    let all = c.args.changes.now in
    let k = c.loop-change.change-index in
    record {
      same = twice viewed_change plain_change new
          ∙ lent_more (λ d. viewed_change (plain_change d)) change_of lent new one c.items-change-items.result.now all k c.change-item.result
          (sym (twice viewed_change plain_change lent) ∙ c.loop-change.invariant.same) c.in_ok-push.ensures.ok c.in_ok-lent.ensures.same c.items-change-items.ensures.same c.loop-change-test.true c.change-item.is;
      len = len_more lent new one k c.loop-change.invariant.len c.in_ok-push.ensures.ok;
      writable = all_more IsWritableChange lent new one c.loop-change.invariant.writable c.in_ok-lent.ensures.writable c.in_ok-push.ensures.ok;
    }
