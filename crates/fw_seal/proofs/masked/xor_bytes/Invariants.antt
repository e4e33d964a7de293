use Rattle.std.proofs.Common.{◌≡◌, ◌<◌, ℕ, length, get_or}
use Rattle.std.specs.Prelude.{bit_xor}
use Rattle.fw_seal.proofs.masked.xor_bytes.Given as goal

-- each byte so far is both bytes' difference
abbrev pub invariant-loop-k : goal.invariant-loop-k
invariant-loop-k l = record {
  whole : length l.bytes ≡ 512;
  written : (i : ℕ) → i < l.k → get_or l.bytes i 0 ≡ bit_xor (get_or l.block i 0) (get_or l.mask i 0);
}
