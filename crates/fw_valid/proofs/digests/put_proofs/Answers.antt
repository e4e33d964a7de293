use Rattle.std.proofs.Common.{◌≡◌, ◌∙◌, ap, arith, length}
use Rattle.fw_text.specs.Texts.{hash, listed_bytes}
use Rattle.fw_frame.specs.Plain.{plain_proof}
use Rattle.fw_frame.specs.Parts.{listed}
use Rattle.fw_valid.proofs.Filling.{written_more}
use Rattle.fw_valid.proofs.digests.put_proofs.Goals as goal

pub loop-proof-preserved : goal.loop-proof-preserved
loop-proof-preserved c =
    let part : c.copy_from_slice.new.self ≡ c.bytes_of_proof-bytes.result = c.copy_from_slice.ensures.after in
    let long : length c.copy_from_slice.new.self ≡ 40 = ap length part ∙ c.bytes_of_proof-bytes.ensures.len in
    record {
      len = omega (arith, long, c.loop-proof.invariant.len, c.loop-proof.invariant.at, c.loop-proof-test.true);
      at = omega (arith, c.loop-proof.invariant.at);
      written = written_more listed_bytes (listed hash) plain_proof c.args.proofs.now c.loop-proof.proof-index c.proof-item.result c.loop-proof.at _ _ c.loop-proof.out c.copy_from_slice.new.self c.loop-proof-test.true (omega (arith, c.loop-proof.invariant.len, c.loop-proof.invariant.at, c.loop-proof-test.true)) (omega (arith, long)) (part ∙ c.bytes_of_proof-bytes.ensures.value ∙ ap (λ q. listed_bytes (listed hash (plain_proof q))) c.proof-item.is) c.loop-proof.invariant.written;
    }
