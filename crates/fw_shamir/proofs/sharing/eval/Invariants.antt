use Rattle.std.proofs.Common.{◌≡◌, ◌≤◌, length, drop}
use Rattle.fw_shamir.specs.Polynomial.{eval}
use Rattle.fw_shamir.proofs.sharing.eval.Given as goal

abbrev pub invariant-loop-k : goal.invariant-loop-k
invariant-loop-k l = record {
  inside : l.k ≤ length l.coefficients;
  tail : l.value ≡ eval (drop l.k l.coefficients) l.at;
}

abbrev pub decreases-loop-k : goal.decreases-loop-k
decreases-loop-k l = l.k
