-- The frame of what was lent.
use Rattle.std.proofs.Common.{◌≡◌, ℕ, List, map, ap, ◌∙◌}
use Rattle.std.proofs.lemmas.Result.{IfOk-weaker}
use Rattle.fw_frame.specs.Frames as frames
use Rattle.fw_frame.specs.Plain.{plain_change}
use Rattle.fw_frame.specs.Spelling.{frame_bytes}
use Rattle.fw_frame.specs.View.{Begins}
use Rattle.fw_means.specs.Means.{written}
use Rattle.fw_owned.specs.Pieces.{change_of, new_view_of}
use Rattle.fw_owned.proofs.Writing.{new_view_written}
use Rattle.fw_owned.proofs.owned.OwnedNewView.frame.Goals as goal

pub returns : goal.returns
returns c =
    let n = c.args.self.now in
    let sig = c.items.result.now in
    let lent = map plain_change c.in_ok-lent_changes.field-0 in
    IfOk-weaker c.write.result (λ bytes. bytes ≡ frame_bytes (frames.NewView n.view lent sig)) (λ bytes. bytes ≡ written (Begins (new_view_of n)))
    (λ bytes is. is ∙ new_view_written n.view lent (map change_of n.changes) sig c.in_ok-lent_changes.ensures.same ∙ ap (λ (s : List ℕ). written (Begins (record (new_view_of n) { sig = s }))) c.items.ensures)
    c.write.ensures
