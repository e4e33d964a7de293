-- The single steps are of the deal's deployment.
use Rattle.std.proofs.Common.{[], sym, subst, IsTrue}
use Rattle.std.specs.List.{list_all}
use Rattle.fw_base.specs.declared.params.Params.{Params}
use Rattle.fw_step.specs.Fitting.{step_fits}
use Rattle.try_plain.proofs.told.told_of_plan.Goals as goal

pub world_of-requires-clause-steps : goal.world_of-requires-clause-steps
world_of-requires-clause-steps g c =
    subst (λ (q : Params). IsTrue (list_all (step_fits q []) c.in_ok-singles.singles)) (sym c.in_ok-dealt.ensures.steps) c.in_ok-singles.ensures.fit
