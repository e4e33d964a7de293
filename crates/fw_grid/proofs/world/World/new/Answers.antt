-- All steps are left.
use Rattle.std.proofs.Common.{arith}
use Rattle.fw_grid.proofs.world.World.new.Goals as goal

pub invariant_of-result : goal.invariant_of-result
invariant_of-result g c = record {
  fit = rw c.new.ensures c.requires.steps;
  honest = c.requires.honest;
  within = omega arith;
  few = omega arith;
}
