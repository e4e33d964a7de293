-- The deal is of the plan's sizes and records.
use Rattle.std.proofs.Common.{List, sym, ap, subst, IsTrue}
use Rattle.fw_base.specs.Sizes.{accepted}
use Rattle.fw_op.specs.declared.start.Start.{Start}
use Rattle.fw_record.specs.Records.{starts_fit}
use Rattle.fw_deal.specs.Deals.{PlainDeal}
use Rattle.try_plain.proofs.told.deal_of.Goals as goal

pub returns-clause-sizes : goal.returns-clause-sizes
returns-clause-sizes c = subst (λ (x : PlainDeal). IsTrue (accepted x.origin.params)) (sym c.in_ok-deal.ensures) c.requires.sizes

pub returns-clause-starts : goal.returns-clause-starts
returns-clause-starts c =
    subst (λ (x : PlainDeal). IsTrue (starts_fit x.origin.params.clients x.starts)) (sym c.in_ok-deal.ensures)
    (subst (λ (xs : List Start). IsTrue (starts_fit c.args.plan.now.params.clients xs)) (sym c.items.ensures) c.requires.starts)

pub returns-clause-same : goal.returns-clause-same
returns-clause-same c = subst (λ (x : PlainDeal). IsTrue (starts_fit x.origin.params.clients c.args.plan.now.starts)) (sym c.in_ok-deal.ensures) c.requires.starts

pub returns-clause-steps : goal.returns-clause-steps
returns-clause-steps c = ap (λ (x : PlainDeal). x.origin.params) c.in_ok-deal.ensures
