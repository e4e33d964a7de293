-- The steps and the nodes are those of the directory's deployment, in which nobody is faulty.
use Rattle.std.proofs.Common.{[], List, sym, subst, IsTrue}
use Rattle.std.specs.List.{list_all}
use Rattle.fw_base.specs.declared.seat.Seat.{Seat}
use Rattle.fw_step.specs.Fitting.{step_fits}
use Rattle.try_limits.proofs.playing.world_of.Goals as goal

pub new-requires-2-clause-steps : goal.new-requires-2-clause-steps
new-requires-2-clause-steps c =
    subst (λ (f : List Seat). IsTrue (list_all (step_fits c.in_ok-directory.directory.params f) c.in_ok-steps.steps)) (sym c.new.ensures)
    (subst (λ p. IsTrue (list_all (step_fits p []) c.in_ok-steps.steps)) (sym c.in_ok-directory.ensures) c.in_ok-steps.ensures.fit)

pub new-requires-2-clause-fresh : goal.new-requires-2-clause-fresh
new-requires-2-clause-fresh c = rw c.new.ensures (c.in_ok-grid.ensures.fresh c.in_ok-directory.directory)
