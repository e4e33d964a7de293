-- The steps are of the deployment, in which nobody is faulty, and the nodes are new.
use Rattle.std.proofs.Common.{[], List, sym, subst, IsTrue}
use Rattle.std.specs.List.{list_all}
use Rattle.fw_base.specs.declared.params.Params.{Params}
use Rattle.fw_base.specs.declared.seat.Seat.{Seat}
use Rattle.fw_step.specs.Fitting.{step_fits}
use Rattle.try_plain.proofs.run.world_of.Goals as goal

pub new-requires-clause-steps : goal.new-requires-clause-steps
new-requires-clause-steps c =
    subst (λ (f : List Seat). IsTrue (list_all (step_fits c.into_directory.result.params f) c.args.singles)) (sym c.new-nobody.ensures)
    (subst (λ (q : Params). IsTrue (list_all (step_fits q []) c.args.singles)) (sym c.into_directory.ensures.sizes) c.requires.steps)

pub new-requires-clause-fresh : goal.new-requires-clause-fresh
new-requires-clause-fresh c = (rw c.items.ensures at c.in_ok-grid.ensures.fresh) c.into_directory.result c.into_directory.ensures.sizes
