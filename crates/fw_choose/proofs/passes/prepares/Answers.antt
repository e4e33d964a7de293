-- The first proposal that was found.
use Rattle.std.proofs.Common.{Some, None, ap, sym, ◌∙◌}
use Rattle.std.specs.Prelude.{is_some}
use Rattle.fw_rules.specs.Agree as agree
use Rattle.fw_kept.specs.Kept.{self_of, node_of}
use Rattle.fw_owned.specs.Pieces.{entry_of}
use Rattle.fw_owned.proofs.Found.{copied_some}
use Rattle.fw_choose.proofs.Choosing.{prepares_primary, prepares_first}
use Rattle.fw_choose.proofs.passes.prepares.Goals as goal

pub returns-then-is_primary-clause-act : goal.returns-then-is_primary-clause-act
returns-then-is_primary-clause-act c = λ hand.
    prepares_primary (self_of c.args.directory.now hand c.args.own) (node_of c.args.keeps.now) c.args.number c.if-not-keeps.false
    (sym (c.is_primary.ensures hand) ∙ c.if-is_primary.true)

pub returns-in_ok-entry-in-Some-clause-act : goal.returns-in_ok-entry-in-Some-clause-act
returns-in_ok-entry-in-Some-clause-act c = λ hand.
    ap (λ e. Some (agree.Prepare c.args.number (entry_of e))) c.in_ok-entry-in-Some.ensures
    ∙ prepares_first (self_of c.args.directory.now hand c.args.own) (node_of c.args.keeps.now) c.args.number (Some (agree.Prepare c.args.number (entry_of c.in-Some.propose.now.entry)))
    c.if-not-keeps.false (sym (c.is_primary.ensures hand) ∙ c.if-is_primary.false)
    (ap is_some (sym c.cast_at.ensures) ∙ copied_some entry_of c.cast_at.result ∙ sym c.is_some.ensures ∙ c.if-is_some.false)
    (c.in-Some.ensures c.args.directory.now hand c.args.own)

pub returns-in-None-clause-act : goal.returns-in-None-clause-act
returns-in-None-clause-act c = λ hand.
    prepares_first (self_of c.args.directory.now hand c.args.own) (node_of c.args.keeps.now) c.args.number None
    c.if-not-keeps.false (sym (c.is_primary.ensures hand) ∙ c.if-is_primary.false)
    (ap is_some (sym c.cast_at.ensures) ∙ copied_some entry_of c.cast_at.result ∙ sym c.is_some.ensures ∙ c.if-is_some.false)
    (c.in-None.ensures c.args.directory.now hand c.args.own)
