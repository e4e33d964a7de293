-- The frame of what was lent.
use Rattle.std.proofs.Common.{◌≡◌, map, ap, ◌∙◌}
use Rattle.std.proofs.lemmas.Result.{IfOk-weaker}
use Rattle.fw_frame.specs.Frames as frames
use Rattle.fw_frame.specs.Plain.{plain_entry, plain_signer}
use Rattle.fw_frame.specs.Spelling.{frame_bytes}
use Rattle.fw_frame.specs.View.{Agrees}
use Rattle.fw_means.specs.Means.{written}
use Rattle.fw_owned.specs.Pieces.{agreed_of, entry_of, signer_of}
use Rattle.fw_owned.proofs.Writing.{agreed_written}
use Rattle.fw_owned.proofs.owned.OwnedAgreed.frame.Goals as goal

pub returns : goal.returns
returns c =
    let a = c.args.self.now in
    IfOk-weaker c.write.result (λ bytes. bytes ≡ frame_bytes (frames.Agreed a.view a.number (plain_entry c.lent.result) (map plain_signer c.in_ok-lent_signers.field-0))) (λ bytes. bytes ≡ written (Agrees (agreed_of a)))
    (λ bytes is. is ∙ agreed_written a.view a.number (plain_entry c.lent.result) (map plain_signer c.in_ok-lent_signers.field-0) (entry_of a.entry) (map signer_of a.signers) c.lent.ensures
    c.in_ok-lent_signers.ensures.same)
    c.write.ensures
