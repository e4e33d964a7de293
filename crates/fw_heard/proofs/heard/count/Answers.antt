-- The frame that is counted is the one that the rule sees of the change.
use Rattle.std.proofs.Common.{ℕ, List, ap, ◌∙◌}
use Rattle.fw_frame.specs.Plain.{plain_change}
use Rattle.fw_frame.specs.View.{Change}
use Rattle.fw_view.specs.Counted.{frame_with}
use Rattle.fw_owned.specs.Pieces.{change_of}
use Rattle.fw_owned.proofs.Writing.{change_written}
use Rattle.fw_heard.proofs.Counting.{frame_for}
use Rattle.fw_heard.proofs.heard.count.Goals as goal

pub returns-clause-counted : goal.returns-clause-counted
returns-clause-counted c = λ view agree.
    let old = c.args.counted.now in
    let lent = c.in_ok-lent.lent in
    let change = c.args.change.now in
    let same = c.in_ok-lent.ensures.same in
    c.in_ok-add.ensures.added view agree
    ∙ ap (λ (bytes : List ℕ). frame_with old lent.view lent.agree bytes view agree) (change_written (plain_change lent) (change_of change) same)
    ∙ ap (λ (seen : Change). frame_with old seen.view seen.agree (frame_for change) view agree) same
