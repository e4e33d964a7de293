use Rattle.std.proofs.Common.{◌≡◌, ◌<◌, ℕ, length}
use Rattle.fw_text.specs.Bits.{value_at}
use Rattle.fw_lamport.specs.Signature.{side_of}
use Rattle.fw_lamport.proofs.signing.sign.Given as goal

abbrev pub invariant-loop-b : goal.invariant-loop-b
invariant-loop-b l = record {
  len : length l.out ≡ 8192;
  so_far : (a : ℕ) → a < l.b → value_at l.out a ≡ value_at l.fn.secrets (side_of l.fn.digest a);
}
