-- The seats so far are the deployment's.
use Rattle.fw_node.proofs.Sendable.{AllFit}
use Rattle.try_limits.specs.declared.cast.TheConstants.{PARAMS}
use Rattle.try_limits.proofs.cast.again.Given as goal

abbrev pub invariant-loop : goal.invariant-loop
invariant-loop l = AllFit PARAMS l.seats
