-- The next step fits, and its single steps with it; and at the end all do.
use Rattle.std.proofs.Common.{[], ◌<◌, ◌≤◌, List, length, take_all, sym, subst, arith, IsTrue}
use Rattle.std.specs.List.{list_all}
use Rattle.fw_step.specs.declared.step.Step.{Step}
use Rattle.fw_step.specs.Fitting.{step_fits}
use Rattle.try_plain.proofs.Fits.{next_fits}
use Rattle.try_plain.proofs.singles.singles_of.Goals as goal

pub loop-step-preserved : goal.loop-step-preserved
loop-step-preserved c = record {
  fit = λ p fit.
      let inside : c.loop-step.step-index < length c.args.steps.now = omega arith in
      let two = next_fits p c.args.steps.now c.loop-step.step-index c.step-item.result inside fit in
      c.in_ok-push_singles.ensures.fit p (subst (λ (s : Step). IsTrue (step_fits p [] s)) (sym c.step-item.is) two.1) (c.loop-step.invariant.fit p two.0);
  honest = c.in_ok-push_singles.ensures.honest c.loop-step.invariant.honest;
}

pub returns-clause-fit : goal.returns-clause-fit
returns-clause-fit c = λ p fit.
    let last : length c.args.steps.now ≤ c.loop-step.step-index = omega arith in
    c.loop-step.invariant.fit p (subst (λ (xs : List Step). IsTrue (list_all (step_fits p []) xs)) (sym (take_all c.loop-step.step-index c.args.steps.now last)) fit)
