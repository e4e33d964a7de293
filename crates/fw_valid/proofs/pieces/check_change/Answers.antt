use Rattle.std.proofs.Common.{refl, sym, subst, arith, true, false, List, [], ◌∷◌, map, IsTrue}
use Rattle.std.specs.Prelude.{flat_map}
use Rattle.std.specs.List.{list_all}
use Rattle.fw_base.specs.declared.slot.Slot.TheVariants as slots
use Rattle.fw_text.specs.Texts.{hash}
use Rattle.fw_frame.specs.declared.frame.Proof.{Proof}
use Rattle.fw_frame.specs.Plain.{plain_change, plain_proof}
use Rattle.fw_frame.specs.Parts.{proof_pieces, change_text, signature}
use Rattle.fw_frame.specs.Ranges.{proof_fits}
use Rattle.fw_valid.specs.Checks.{Checks}
use Rattle.fw_valid.proofs.Fitting.{change_parts, change_few}
use Rattle.fw_valid.proofs.Joining.{checks_more, checks_stop, checks_after_step}
use Rattle.fw_valid.proofs.pieces.check_change.Goals as goal

pub check_proofs-requires : goal.check_proofs-requires
check_proofs-requires g c =
    subst (λ (proofs : List Proof). IsTrue (list_all (proof_fits c.args.directory.now.params c.args.directory.now.params.views) (map plain_proof proofs))) (sym c.items.ensures) (change_parts c.args.directory.now.params (plain_change c.args.change.now) c.requires.fits).proofs

pub change_digest-digest-requires : goal.change_digest-digest-requires
change_digest-digest-requires g c = change_few c.args.directory.now.params c.args.change.now c.requires.sizes c.requires.fits

pub returns-then-not-check_proofs : goal.returns-then-not-check_proofs
returns-then-not-check_proofs g c =
    let own = signature (slots.Change c.args.change.now.view c.args.change.now.agree) (change_text hash (plain_change c.args.change.now)) c.args.change.now.sig.now ∷ [] in
    let proofs = subst (λ (xs : List Proof). Checks c.args.directory.now 257 false c.args.steps.now c.check_proofs.new.steps (flat_map (proof_pieces hash) (map plain_proof xs))) c.items.ensures c.if-not-check_proofs.ensures in
    checks_stop c.args.directory.now 257 false c.args.steps.now c.check_proofs.new.steps (flat_map (proof_pieces hash) (map plain_proof c.args.change.now.proofs)) own refl proofs

pub returns : goal.returns
returns g c =
    let text = change_text hash (plain_change c.args.change.now) in
    let own = signature (slots.Change c.args.change.now.view c.args.change.now.agree) text c.args.change.now.sig.now ∷ [] in
    let proofs = subst (λ (xs : List Proof). Checks c.args.directory.now 257 true c.args.steps.now c.check_proofs.new.steps (flat_map (proof_pieces hash) (map plain_proof xs))) c.items.ensures c.if-not-check_proofs.ensures in
    let sig = checks_after_step c.args.directory.now c.check_part.result c.check_proofs.new.steps c.change_digest-digest.new.steps c.check_part.new.steps own c.change_digest-digest.ensures.step (omega arith) (c.check_part.ensures text c.change_digest-digest.ensures.digest) in
    checks_more c.args.directory.now 257 true c.check_part.result c.args.steps.now c.check_proofs.new.steps c.check_part.new.steps (flat_map (proof_pieces hash) (map plain_proof c.args.change.now.proofs)) own refl proofs sig
