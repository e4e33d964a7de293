use Rattle.std.proofs.Common.{◌≡◌, ◌++◌, take, drop}
use Rattle.fw_shamir.specs.Steps.{lowered}
use Rattle.fw_shamir.proofs.sharing.lower.Given as goal

abbrev pub invariant-loop-k : goal.invariant-loop-k
invariant-loop-k l = l.rest ≡ lowered l.fn.first (take l.k l.fn.rest) ++ drop l.k l.fn.rest
