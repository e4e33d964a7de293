use Rattle.std.proofs.Common.{ℕ, ◌≡◌, refl, subst, arith, true, false, [], ◌∷◌, map, ◌+◌, ◌%◌, ◌≤◌, length}
use Rattle.std.specs.Prelude.{flat_map}
use Rattle.std.proofs.Math.ListN.{length-map}
use Rattle.fw_base.specs.declared.slot.Slot.TheVariants as slots
use Rattle.fw_base.specs.Sizes.{primary}
use Rattle.fw_text.specs.Texts.{hash}
use Rattle.fw_frame.specs.Plain.{plain_change}
use Rattle.fw_frame.specs.Parts.{change_pieces, new_view_text, signature}
use Rattle.fw_valid.specs.Checks.{Checks, parts_in}
use Rattle.fw_valid.proofs.Fitting.{new_view_parts}
use Rattle.fw_valid.proofs.Joining.{checks_more, checks_stop, checks_within, checks_after_step, checks_before_steps, count-changes}
use Rattle.fw_valid.proofs.pieces.check_new_view.Goals as goal

pub check_changes-requires-clause-fits : goal.check_changes-requires-clause-fits
check_changes-requires-clause-fits g c = (new_view_parts c.args.directory.now.params c.args.view c.args.changes.now c.args.sig.now c.requires.sizes c.requires.fits).each

pub new_view_digest-digest-requires-clause-few : goal.new_view_digest-digest-requires-clause-few
new_view_digest-digest-requires-clause-few g c = (new_view_parts c.args.directory.now.params c.args.view c.args.changes.now c.args.sig.now c.requires.sizes c.requires.fits).few

pub new_view_digest-digest-requires-clause-proofs : goal.new_view_digest-digest-requires-clause-proofs
new_view_digest-digest-requires-clause-proofs g c = (new_view_parts c.args.directory.now.params c.args.view c.args.changes.now c.args.sig.now c.requires.sizes c.requires.fits).proofs

pub returns-then-not-check_changes : goal.returns-then-not-check_changes
returns-then-not-check_changes g c =
    let own = signature (slots.NewView c.args.view (primary c.args.directory.now.params c.args.view)) (new_view_text hash c.args.view (map plain_change c.args.changes.now)) c.args.sig.now ∷ [] in
    let changes = flat_map (change_pieces hash) (map plain_change c.args.changes.now) in
    checks_stop c.args.directory.now 260 false c.args.steps.now c.check_changes.new.steps changes own refl (checks_within c.args.directory.now 257 260 false c.args.steps.now c.check_changes.new.steps changes (omega arith) c.if-not-check_changes.ensures)

pub returns : goal.returns
returns g c =
    let text = new_view_text hash c.args.view (map plain_change c.args.changes.now) in
    let own = signature (slots.NewView c.args.view (primary c.args.directory.now.params c.args.view)) text c.args.sig.now ∷ [] in
    let changes = flat_map (change_pieces hash) (map plain_change c.args.changes.now) in
    let between : ℕ = c.check_changes.new.steps + length c.args.changes.now in
    let count : length (map plain_change c.args.changes.now) ≤ length (parts_in changes) = count-changes (map plain_change c.args.changes.now) in
    let same : length (map plain_change c.args.changes.now) ≡ length c.args.changes.now = simp length-map in
    let first = checks_before_steps c.args.directory.now true c.args.steps.now c.check_changes.new.steps between (length c.args.changes.now) changes refl (omega (arith, same, count)) c.if-not-check_changes.ensures in
    let part = subst (λ (n : ℕ). Checks c.args.directory.now 256 c.check_part.result c.new_view_digest-digest.new.steps c.check_part.new.steps (signature (slots.NewView c.args.view (c.args.view % n)) text c.args.sig.now ∷ [])) c.requires.nodes (c.check_part.ensures text c.new_view_digest-digest.ensures.digest) in
    let sig = checks_after_step c.args.directory.now c.check_part.result between c.new_view_digest-digest.new.steps c.check_part.new.steps own c.new_view_digest-digest.ensures.step (omega arith) part in
    let last = checks_within c.args.directory.now 257 258 c.check_part.result between c.check_part.new.steps own (omega arith) sig in
    let all = checks_more c.args.directory.now 258 true c.check_part.result c.args.steps.now between c.check_part.new.steps changes own refl first last in
    checks_within c.args.directory.now 258 260 c.check_part.result c.args.steps.now c.check_part.new.steps _ (omega arith) all
