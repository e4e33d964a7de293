use Rattle.std.proofs.Common.{◌≡◌, ◌<◌, ℕ, [], length, map, get_or}
use Rattle.fw_shamir.specs.Steps.{AreWeights}
use Rattle.fw_shamir.proofs.Weighing.{front_value}
use Rattle.fw_shamir.proofs.weights.Weights.combine_into.Given as goal

-- each byte is what the shares so far give, and they have bytes
abbrev pub invariant-loop-k : goal.invariant-loop-k
invariant-loop-k l = record {
  weights : AreWeights l.fn.self l.self-inside.weights;
  sums : (j : ℕ) → j < length l.out → get_or l.out j 0 ≡ front_value l.fn.self l.k (map (λ share. get_or share.now j 0) l.shares);
  fits : (i : ℕ) → i < l.k → (j : ℕ) → j < length l.out → get_or (get_or l.shares i (record { ref_ptr = (0, 0); now = [] })).now j 0 < 256;
}
