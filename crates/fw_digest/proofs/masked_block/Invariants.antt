use Rattle.std.proofs.Common.{◌≡◌, ◌<◌, ℕ, length, get_or}
use Rattle.std.specs.Prelude.{bit_xor}
use Rattle.fw_digest.proofs.masked_block.Given as goal

-- each byte so far is the key's, or 0 past its end, with the mask
abbrev pub invariant-loop-k : goal.invariant-loop-k
invariant-loop-k l = record {
  whole : length l.block ≡ 64;
  written : (i : ℕ) → i < l.k → get_or l.block i 0 ≡ bit_xor (get_or l.key i 0) l.mask;
}
