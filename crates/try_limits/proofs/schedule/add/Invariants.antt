-- The steps so far are the deployment's.
use Rattle.std.proofs.Common.{[], IsTrue}
use Rattle.std.specs.List.{list_all}
use Rattle.fw_step.specs.Fitting.{is_honest, step_fits}
use Rattle.try_limits.specs.declared.cast.TheConstants.{PARAMS}
use Rattle.try_limits.proofs.schedule.add.Given as goal

abbrev pub invariant-loop : goal.invariant-loop
invariant-loop l = record {
  fit : IsTrue (list_all (step_fits PARAMS []) l.steps);
  honest : IsTrue (list_all is_honest l.steps);
}
