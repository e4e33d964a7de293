-- A flush is as many deliveries.
use Rattle.std.proofs.Common.{[], IsTrue}
use Rattle.std.specs.List.{list_all}
use Rattle.fw_base.specs.declared.params.Params.{Params}
use Rattle.fw_step.specs.Fitting.{step_fits}
use Rattle.try_plain.proofs.Fits.{on_ok}
use Rattle.try_plain.proofs.singles.push_singles.Goals as goal

pub returns-in-Flush-clause-fit : goal.returns-in-Flush-clause-fit
returns-in-Flush-clause-fit c =
    on_ok c.push_flushes.result
    ((p : Params) → IsTrue (list_all (step_fits p []) c.args.singles.now) → IsTrue (list_all (step_fits p []) c.push_flushes.new.singles))
    ((p : Params) → IsTrue (step_fits p [] c.args.step.now) → IsTrue (list_all (step_fits p []) c.args.singles.now) → IsTrue (list_all (step_fits p []) c.push_flushes.new.singles))
    (λ each p fit before. each p before) c.push_flushes.ensures.fit
