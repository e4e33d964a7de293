use Rattle.std.proofs.Common.{◌≡◌, ◌∙◌, ap, arith, length}
use Rattle.fw_text.specs.Texts.{hash, heading_bytes}
use Rattle.fw_frame.specs.Plain.{plain_change}
use Rattle.fw_frame.specs.Parts.{heading}
use Rattle.fw_valid.proofs.Filling.{written_more}
use Rattle.fw_valid.proofs.digests.put_changes.Goals as goal

pub loop-change-preserved : goal.loop-change-preserved
loop-change-preserved g c =
    let part : c.copy_from_slice.new.self ≡ c.bytes_of_change-bytes.result = c.copy_from_slice.ensures.after in
    let long : length c.copy_from_slice.new.self ≡ 36 = ap length part ∙ c.bytes_of_change-bytes.ensures.len in
    record {
      len = omega (arith, long, c.loop-change.invariant.len, c.loop-change.invariant.at, c.loop-change-test.true);
      at = omega (arith, c.loop-change.invariant.at);
      step = omega (arith, c.loop-change.invariant.step, c.bytes_of_change-bytes.ensures.step);
      written = written_more heading_bytes (heading hash) plain_change c.args.changes.now c.loop-change.change-index c.change-item.result c.loop-change.at _ _ c.loop-change.out c.copy_from_slice.new.self c.loop-change-test.true (omega (arith, c.loop-change.invariant.len, c.loop-change.invariant.at, c.loop-change-test.true)) (omega (arith, long)) (part ∙ c.bytes_of_change-bytes.ensures.value ∙ ap (λ q. heading_bytes (heading hash (plain_change q))) c.change-item.is) c.loop-change.invariant.written;
    }
