use Rattle.std.proofs.Common.{◌≡◌, ◌<◌, ◌+◌, ℕ, get_or}
use Rattle.fw_shamir.specs.Polynomial.{eval}
use Rattle.fw_shamir.proofs.sharing.split.Given as goal

abbrev pub invariant-loop-k : goal.invariant-loop-k
invariant-loop-k l = (j : ℕ) → j < l.k → get_or l.shares j 0 ≡ eval l.coefficients (j + 1)
