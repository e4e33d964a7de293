-- The frame of what was lent.
use Rattle.std.proofs.Common.{◌≡◌, ℕ, List, ap, ◌∙◌}
use Rattle.std.proofs.lemmas.Result.{IfOk-weaker}
use Rattle.fw_frame.specs.Frames as frames
use Rattle.fw_frame.specs.Plain.{plain_entry}
use Rattle.fw_frame.specs.Spelling.{frame_bytes}
use Rattle.fw_frame.specs.View.{Proposes}
use Rattle.fw_means.specs.Means.{written}
use Rattle.fw_owned.specs.Pieces.{entry_of, propose_of}
use Rattle.fw_owned.proofs.Writing.{proposal_written}
use Rattle.fw_owned.proofs.owned.OwnedPropose.frame.Goals as goal

pub returns : goal.returns
returns c =
    let m = c.args.self.now in
    let sig = c.items.result.now in
    IfOk-weaker c.write.result (λ bytes. bytes ≡ frame_bytes (frames.Propose m.view m.number (plain_entry c.lent.result) sig)) (λ bytes. bytes ≡ written (Proposes (propose_of m)))
    (λ bytes is. is ∙ proposal_written m.view m.number (plain_entry c.lent.result) (entry_of m.entry) sig c.lent.ensures ∙ ap (λ (s : List ℕ). written (Proposes (record (propose_of m) { sig = s }))) c.items.ensures)
    c.write.ensures
