-- The view changes are these, and the signature is the one of its text.
use Rattle.std.proofs.Common.{map, ap, ◌∙◌}
use Rattle.fw_frame.specs.Plain.{plain_change}
use Rattle.fw_frame.specs.View.{viewed_change}
use Rattle.fw_owned.specs.Pieces.{change_of}
use Rattle.fw_move.proofs.Signed.{made_new_view}
use Rattle.fw_move.proofs.making.own_new_view.Goals as goal

pub returns : goal.returns
returns c =
    let a = c.args in
    made_new_view a.hand.now a.view a.own (map change_of c.in_ok-copy_changes.field-0) (map change_of a.changes.now) c.in_ok-copy_of.field-0 c.in_ok-text.text.digest (map plain_change c.items.result.now)
    (ap (map change_of) c.in_ok-copy_changes.ensures)
    (ap (λ l. map viewed_change (map plain_change l)) c.items.ensures ∙ c.in_ok-lent.ensures.same)
    (ap (λ t. t.digest) c.in_ok-text.ensures)
    (c.in_ok-copy_of.ensures ∙ c.new_view_signature-sig.ensures)
