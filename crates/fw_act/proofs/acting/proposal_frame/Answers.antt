-- The frame of what was lent.
use Rattle.std.proofs.Common.{◌≡◌, ◌∙◌}
use Rattle.std.proofs.lemmas.Result.{IfOk-weaker}
use Rattle.fw_frame.specs.Frames as frames
use Rattle.fw_frame.specs.Plain.{plain_entry}
use Rattle.fw_frame.specs.Spelling.{frame_bytes}
use Rattle.fw_owned.specs.Pieces.{entry_of}
use Rattle.fw_owned.proofs.Writing.{proposal_written}
use Rattle.fw_act.proofs.acting.proposal_frame.Goals as goal

pub returns : goal.returns
returns c =
    IfOk-weaker c.write.result (λ bytes. bytes ≡ frame_bytes (frames.Propose c.args.view c.args.number (plain_entry c.lent.result) c.args.sig.now)) _
    (λ bytes is. is ∙ proposal_written c.args.view c.args.number (plain_entry c.lent.result) (entry_of c.args.entry.now) c.args.sig.now c.lent.ensures)
    c.write.ensures
