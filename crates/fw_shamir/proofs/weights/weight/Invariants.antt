use Rattle.std.proofs.Common.{◌≡◌, ◌<◌, ℕ, length, get_or}
use Rattle.fw_shamir.proofs.Weighing.{unit}
use Rattle.fw_shamir.proofs.weights.weight.Given as goal

-- the points so far
abbrev pub invariant-loop-k : goal.invariant-loop-k
invariant-loop-k l = record {
  whole : length l.room ≡ 8;
  made : (j : ℕ) → j < l.k → get_or l.room j (record { at = 0; value = 0 }) ≡ record { at = get_or l.places j 0; value = unit l.one j };
}
