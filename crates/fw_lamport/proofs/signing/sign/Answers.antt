use Rattle.std.proofs.Common.{ap, ◌∙◌, arith, ◌≡◌, length, ℕ, ◌+◌, ◌-◌, ◌*◌}
use Rattle.fw_text.specs.Bits.{value_at}
use Rattle.fw_lamport.specs.Signature.{side_of}
use Rattle.fw_lamport.proofs.Splicing.{values_so_far}
use Rattle.fw_lamport.proofs.signing.sign.Goals as goal

pub loop-b-preserved : goal.loop-b-preserved
loop-b-preserved c =
    let b : ℕ = c.loop-b.b in
    let side : 2 * b + c.from.result ≡ side_of c.args.digest.now b = ap (λ z. 2 * b + z) (c.from.ensures ∙ c.bit_of.ensures.value) in
    let part : c.copy_from_slice.new.self ≡ value_at c.args.secrets.now (side_of c.args.digest.now b) =
    c.copy_from_slice.ensures.after ∙ c.value_at.ensures.value ∙ ap (value_at c.args.secrets.now) side in
    let long : length c.copy_from_slice.new.self ≡ 32 = ap length c.copy_from_slice.ensures.after ∙ c.value_at.ensures.len in
    record {
      len = omega (arith, long, c.loop-b.invariant.len);
      so_far = values_so_far b (32 * b + 32 - 32 * b) c.loop-b.out c.copy_from_slice.new.self c.args.secrets.now c.args.digest.now (omega (arith, c.loop-b.invariant.len, c.loop-b-test.true)) long part c.loop-b.invariant.so_far;
    }
