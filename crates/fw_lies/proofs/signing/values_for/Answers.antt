-- What the check leaves to show of `values_for`.
use Rattle.std.proofs.Common.{◌≡◌, ℕ, List, ◌+◌, ◌-◌, ◌*◌, length, ap, ◌∙◌, sym, arith, take_all}
use Rattle.std.specs.List.{flat_map}
use Rattle.fw_list.specs.Lists.{numbers_from}
use Rattle.fw_text.specs.Bits.{bit_of, place_on}
use Rattle.fw_secret.specs.Dealt.{Origin, dealt}
use Rattle.fw_secret.proofs.Parts.{part_written}
use Rattle.fw_secret.proofs.Secrets.{length-dealt}
use Rattle.fw_ref.proofs.Listing.{long_after}
use Rattle.fw_lies.specs.Signing.{value_on, values_for}
use Rattle.fw_lies.proofs.signing.values_for.Goals as goal

pub loop-bit-preserved : goal.loop-bit-preserved
loop-bit-preserved c =
    let o : Origin = c.args.deal.now.origin in
    let digest : List ℕ = c.args.digest.now in
    let b : ℕ = c.loop-bit.bit in
    let f : ℕ → List ℕ = value_on o c.args.slot c.args.point digest in
    let side : c.from.result ≡ bit_of digest b = c.from.ensures ∙ c.bit_of.ensures.value in
    let part : c.copy_from_slice.new.self ≡ f b =
    c.copy_from_slice.ensures.after ∙ c.dealt.ensures ∙ ap (λ (s : ℕ). dealt o (record { slot = c.args.slot; bit = b; side = s; point = c.args.point })) side in
    let long : length c.copy_from_slice.new.self ≡ 32 = ap length part ∙ length-dealt o (place_on c.args.slot c.args.point digest b) in
    record {
      whole = long_after b c.loop-bit.values c.copy_from_slice.new.self c.loop-bit-test.true c.loop-bit.invariant.whole long;
      so_far = part_written f b (32 * b + 32 - 32 * b) c.loop-bit.values c.copy_from_slice.new.self (omega (arith, c.loop-bit.invariant.whole, c.loop-bit-test.true)) long part c.loop-bit.invariant.so_far;
    }

pub returns : goal.returns
unfolding values_for
returns c =
    let f : ℕ → List ℕ = value_on c.args.deal.now.origin c.args.slot c.args.point c.args.digest.now in
    let last : c.loop-bit.bit ≡ 256 = omega arith in
    sym (take_all (32 * c.loop-bit.bit) c.loop-bit.values (omega (arith, c.loop-bit.invariant.whole)))
    ∙ c.loop-bit.invariant.so_far
    ∙ ap (λ (n : ℕ). flat_map f (numbers_from 0 n)) last
