-- The steps of a plan fit where nobody is faulty, and so do their single steps.
use Rattle.std.proofs.Common.{[], List, sym, subst, IsTrue}
use Rattle.std.specs.List.{list_all}
use Rattle.fw_step.specs.declared.step.Step.{Step}
use Rattle.fw_step.specs.Fitting.{step_fits}
use Rattle.try_plain.proofs.Fits.{own_steps, are_askable}
use Rattle.try_plain.proofs.run.singles_of_plan.Goals as goal

pub returns-clause-fit : goal.returns-clause-fit
returns-clause-fit c =
    let p = c.args.plan.now in
    c.in_ok-singles.ensures.fit p.params (subst (λ (xs : List Step). IsTrue (list_all (step_fits p.params []) xs)) (sym c.items.ensures) (own_steps p c.requires.nobody c.requires.plan.steps))

pub returns-clause-askable : goal.returns-clause-askable
returns-clause-askable c =
    let p = c.args.plan.now in
    are_askable p.params c.in_ok-singles.singles c.requires.plan.sizes
    (c.in_ok-singles.ensures.fit p.params (subst (λ (xs : List Step). IsTrue (list_all (step_fits p.params []) xs)) (sym c.items.ensures) (own_steps p c.requires.nobody c.requires.plan.steps)))
