use Rattle.std.proofs.Common.{◌≡◌, ◌<◌, ◌≤◌, ℕ, get_or}
use Rattle.std.specs.Prelude.{bit_xor}
use Rattle.fw_shamir.specs.Field.{gf_product}
use Rattle.fw_shamir.proofs.weights.add_product.Given as goal

-- the products are added to the bytes so far
abbrev pub invariant-loop-j : goal.invariant-loop-j
invariant-loop-j l = record {
  done : (i : ℕ) → i < l.j → get_or l.out i 0 ≡ bit_xor (get_or l.fn.out i 0) (gf_product l.weight (get_or l.share i 0));
  ahead : (i : ℕ) → l.j ≤ i → get_or l.out i 0 ≡ get_or l.fn.out i 0;
}
