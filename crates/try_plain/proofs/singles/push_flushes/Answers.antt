-- A delivery of the oldest frame fits.
use Rattle.std.proofs.Common.{[], List, refl, sym, subst, IsTrue}
use Rattle.std.specs.List.{list_all}
use Rattle.fw_step.specs.declared.step.Step.{Step}
use Rattle.fw_step.specs.declared.step.Step.TheVariants.{Flush}
use Rattle.fw_step.specs.Fitting.{is_honest, step_fits}
use Rattle.try_plain.proofs.Fits.{one_more}
use Rattle.try_plain.proofs.singles.push_flushes.Goals as goal

pub loop-preserved : goal.loop-preserved
loop-preserved c = record {
  fit = λ p fit.
      subst (λ (xs : List Step). IsTrue (list_all (step_fits p []) xs)) (sym c.in_ok-push.ensures.ok) (one_more (step_fits p []) c.loop.singles (Flush 1) (c.loop.invariant.fit p fit) refl);
  honest = λ before. subst (λ (xs : List Step). IsTrue (list_all is_honest xs)) (sym c.in_ok-push.ensures.ok) (one_more is_honest c.loop.singles (Flush 1) (c.loop.invariant.honest before) refl);
}
