use Rattle.std.proofs.Common.{◌≡◌, ℕ, List, ◌+◌, ◌-◌, ◌*◌, length, ap, ◌∙◌, sym, arith, take_all}
use Rattle.std.specs.List.{flat_map}
use Rattle.fw_list.specs.Lists.{numbers_from}
use Rattle.fw_text.specs.Bits.{value_at}
use Rattle.fw_text.specs.Texts.{hash, Value}
use Rattle.fw_lamport.specs.Signature.{place_at}
use Rattle.fw_secret.proofs.Parts.{part_written}
use Rattle.fw_deal.specs.Rows.{row_of}
use Rattle.fw_deal.proofs.InRows.{length-hash}
use Rattle.fw_deal.proofs.digests.digest_row.Goals as goal

pub loop-k-preserved : goal.loop-k-preserved
loop-k-preserved c =
    let k : ℕ = c.loop-k.k in
    let f : ℕ → List ℕ = λ j. hash (Value (place_at c.args.slot c.args.point j) (value_at c.args.values.now j)) in
    let part : c.copy_from_slice.new.self ≡ f k = c.copy_from_slice.ensures.after ∙ c.digest_at.ensures in
    let long : length c.copy_from_slice.new.self ≡ 32 = ap length part ∙ length-hash (Value (place_at c.args.slot c.args.point k) (value_at c.args.values.now k)) in
    record {
      whole = omega (arith, long, c.loop-k.invariant.whole, c.loop-k-test.true);
      so_far = part_written f k (32 * k + 32 - 32 * k) c.loop-k.row c.copy_from_slice.new.self (omega (arith, c.loop-k.invariant.whole, c.loop-k-test.true)) long part c.loop-k.invariant.so_far;
    }

pub returns : goal.returns
unfolding row_of
returns c =
    let f : ℕ → List ℕ = λ j. hash (Value (place_at c.args.slot c.args.point j) (value_at c.args.values.now j)) in
    let last : c.loop-k.k ≡ 512 = omega arith in
    sym (take_all (32 * c.loop-k.k) c.loop-k.row (omega (arith, c.loop-k.invariant.whole)))
    ∙ c.loop-k.invariant.so_far
    ∙ ap (λ (n : ℕ). flat_map f (numbers_from 0 n)) last
