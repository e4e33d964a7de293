-- The null reply.
use Rattle.std.proofs.Common.{◌≡◌, ◌∙◌, replicate}
use Rattle.std.proofs.lemmas.Result.{IfOk-weaker}
use Rattle.fw_list.specs.declared.limits.TheConstants.{BODY_LEN}
use Rattle.fw_frame.specs.Frames as frames
use Rattle.fw_frame.specs.Spelling.{frame_bytes}
use Rattle.fw_share.proofs.Null.{null-written}
use Rattle.fw_share.proofs.joining.reply.Goals as goal

pub returns-in-None : goal.returns-in-None
returns-in-None c =
    rw c.in-None.is
    (IfOk-weaker c.reply_bytes-in-None.result (λ bytes. bytes ≡ frame_bytes (frames.Reply c.args.share.now.number 0 0 (replicate BODY_LEN 0) c.args.secrets.now)) _
    (λ bytes same. same ∙ null-written c.args.share.now.number c.args.secrets.now) c.reply_bytes-in-None.ensures)
