-- The single steps of the steps so far fit where these do.
use Rattle.std.proofs.Common.{[], take, IsTrue}
use Rattle.std.specs.List.{list_all}
use Rattle.fw_base.specs.declared.params.Params.{Params}
use Rattle.fw_step.specs.Fitting.{is_honest, step_fits}
use Rattle.try_plain.proofs.singles.singles_of.Given as goal

abbrev pub invariant-loop-step : goal.invariant-loop-step
invariant-loop-step l = record {
  fit : (p : Params) → IsTrue (list_all (step_fits p []) (take l.step-index l.steps)) → IsTrue (list_all (step_fits p []) l.singles);
  honest : IsTrue (list_all is_honest l.singles);
}
