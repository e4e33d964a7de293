use Rattle.std.proofs.Common.{◌≡◌, ℕ, List, ◌+◌, ◌-◌, ◌*◌, length, ap, ◌∙◌, sym, arith, take_all}
use Rattle.std.specs.List.{flat_map}
use Rattle.fw_list.specs.Lists.{numbers_from}
use Rattle.fw_base.specs.declared.slot.Slot.TheVariants.{Reply}
use Rattle.fw_lamport.specs.Signature.{place_at}
use Rattle.fw_secret.specs.Dealt.{Origin, dealt, slot_values}
use Rattle.fw_secret.proofs.Parts.{part_written}
use Rattle.fw_secret.proofs.Secrets.{length-dealt, reply_in_row}
use Rattle.fw_secret.proofs.replies.reply_values.Goals as goal

pub loop-k-preserved : goal.loop-k-preserved
loop-k-preserved c =
    let o : Origin = record { params = c.args.params.now; seed = c.args.seed.now } in
    let k : ℕ = c.loop-k.k in
    let slot = Reply c.args.number in
    let part : c.copy_from_slice.new.self ≡ dealt o (place_at slot c.args.point k) =
    c.copy_from_slice.ensures.after ∙ c.reply_value.ensures ∙ sym (reply_in_row o c.args.number c.args.point k) in
    let long : length c.copy_from_slice.new.self ≡ 32 = ap length part ∙ length-dealt o (place_at slot c.args.point k) in
    record {
      whole = omega (arith, long, c.loop-k.invariant.whole, c.loop-k-test.true);
      so_far = part_written (λ j. dealt o (place_at slot c.args.point j)) k (32 * k + 32 - 32 * k) c.loop-k.out c.copy_from_slice.new.self (omega (arith, c.loop-k.invariant.whole, c.loop-k-test.true)) long part c.loop-k.invariant.so_far;
    }

pub returns : goal.returns
unfolding slot_values
returns c =
    let o : Origin = record { params = c.args.params.now; seed = c.args.seed.now } in
    let f : ℕ → List ℕ = λ k. dealt o (place_at (Reply c.args.number) c.args.point k) in
    let last : c.loop-k.k ≡ 512 = omega arith in
    sym (take_all (32 * c.loop-k.k) c.loop-k.out (omega (arith, c.loop-k.invariant.whole)))
    ∙ c.loop-k.invariant.so_far
    ∙ ap (λ (n : ℕ). flat_map f (numbers_from 0 n)) last
