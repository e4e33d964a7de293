-- The frame of what was lent.
use Rattle.std.proofs.Common.{◌≡◌, ◌∙◌}
use Rattle.std.proofs.lemmas.Result.{IfOk-weaker}
use Rattle.fw_frame.specs.Frames as frames
use Rattle.fw_frame.specs.Plain.{plain_change}
use Rattle.fw_frame.specs.Spelling.{frame_bytes}
use Rattle.fw_owned.specs.Pieces.{change_of}
use Rattle.fw_owned.proofs.Writing.{change_written}
use Rattle.fw_owned.proofs.owned.OwnedChange.frame.Goals as goal

pub returns : goal.returns
returns c =
    IfOk-weaker c.write.result (λ bytes. bytes ≡ frame_bytes (frames.Change (plain_change c.in_ok-lent.field-0))) _
    (λ bytes is. is ∙ change_written (plain_change c.in_ok-lent.field-0) (change_of c.args.self.now) c.in_ok-lent.ensures.same)
    c.write.ensures
