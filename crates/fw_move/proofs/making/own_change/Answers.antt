-- The proofs are the best ones, and the signature is the one of its text.
use Rattle.std.proofs.Common.{map, ap, ◌∙◌}
use Rattle.fw_frame.specs.Plain.{plain_change}
use Rattle.fw_owned.specs.Pieces.{proof_of}
use Rattle.fw_kept.specs.Kept.{self_of, node_of}
use Rattle.fw_rules.specs.Views.{best_proofs}
use Rattle.fw_move.proofs.Signed.{made_change}
use Rattle.fw_move.proofs.making.own_change.Goals as goal

pub returns : goal.returns
returns c =
    let a = c.args in
    made_change a.hand.now a.view a.own (map proof_of c.in_ok-best_proofs.field-0) (best_proofs (self_of a.directory.now a.hand.now a.own) (node_of a.keeps.now)) c.new.result c.in_ok-change.field-0 c.in_ok-text.text.digest (plain_change c.in_ok-lent.field-0)
    (c.in_ok-best_proofs.ensures a.hand.now a.own)
    c.in_ok-lent.ensures.same
    (ap (λ t. t.digest) c.in_ok-text.ensures)
    (c.in_ok-change.ensures ∙ c.change_signature-sig.ensures)
