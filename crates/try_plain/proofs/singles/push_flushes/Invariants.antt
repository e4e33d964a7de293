-- The steps so far fit where those before did.
use Rattle.std.proofs.Common.{[], IsTrue}
use Rattle.std.specs.List.{list_all}
use Rattle.fw_base.specs.declared.params.Params.{Params}
use Rattle.fw_step.specs.Fitting.{is_honest, step_fits}
use Rattle.try_plain.proofs.singles.push_flushes.Given as goal

abbrev pub invariant-loop : goal.invariant-loop
invariant-loop l = record {
  fit : (p : Params) → IsTrue (list_all (step_fits p []) l.fn.singles) → IsTrue (list_all (step_fits p []) l.singles);
  honest : IsTrue (list_all is_honest l.fn.singles) → IsTrue (list_all is_honest l.singles);
}
