use Rattle.std.proofs.Common.{◌≡◌, ◌<◌, ℕ, length, take, get_or}
use Rattle.fw_shamir.specs.Steps.{weight_of}
use Rattle.fw_shamir.proofs.weights.Weights.of.Given as goal

-- the places so far are copied, and have their weights
abbrev pub invariant-loop-k : goal.invariant-loop-k
invariant-loop-k l = record {
  whole : (length l.copy ≡ 8) × (length l.weights ≡ 8);
  copied : take l.k l.copy ≡ take l.k l.places;
  each : (j : ℕ) → j < l.k → get_or l.weights j 0 ≡ weight_of l.places j;
}
