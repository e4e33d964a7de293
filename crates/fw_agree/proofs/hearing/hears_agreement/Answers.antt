-- A proposal is heard; a view change and a new view that were heard can be written again.
use Rattle.std.proofs.Common.{Some, ap, sym, ◌∙◌}
use Rattle.std.proofs.lemmas.List.{append-nil}
use Rattle.fw_frame.specs.Plain.{plain_entry}
use Rattle.fw_frame.specs.View.{viewed_entry}
use Rattle.fw_rules.specs.Agree.{hears_proposal}
use Rattle.fw_kept.specs.Kept.{self_of, node_of}
use Rattle.fw_agree.proofs.Shapes.{seen_writable, begun_writable}
use Rattle.fw_agree.proofs.hearing.hears_agreement.Goals as goal

pub returns-in_ok-hears_proposal-in-Propose-clause-step : goal.returns-in_ok-hears_proposal-in-Propose-clause-step
returns-in_ok-hears_proposal-in-Propose-clause-step c = λ hand own i out.
    let m = c.in-Propose in
    rw m.is
    (ap (λ o. Some (hears_proposal (self_of c.args.directory.now hand own) (node_of c.args.keeps.now) (record { view = m.view; number = m.number; entry = viewed_entry (plain_entry m.entry); sig = m.sig.now }), o)) (append-nil out)
    ∙ ap (λ x. Some (x, out)) (sym (c.in_ok-hears_proposal-in-Propose.ensures.kept hand own)))

pub hears_change-requires-clause-writable : goal.hears_change-requires-clause-writable
hears_change-requires-clause-writable c =
    seen_writable c.args.directory.now.params c.requires.sizes c.in-Change.change (rw c.in-Change.is at c.requires.seen)

pub hears_new_view-requires-clause-few : goal.hears_new_view-requires-clause-few
hears_new_view-requires-clause-few c =
    let m = c.in-NewView in
    rw c.items.ensures (begun_writable c.args.directory.now.params c.requires.sizes m.view m.changes m.sig.now (rw m.is at c.requires.seen)).0

pub hears_new_view-requires-clause-writable : goal.hears_new_view-requires-clause-writable
hears_new_view-requires-clause-writable c =
    let m = c.in-NewView in
    rw c.items.ensures (begun_writable c.args.directory.now.params c.requires.sizes m.view m.changes m.sig.now (rw m.is at c.requires.seen)).1
