use Rattle.std.proofs.Common.{arith, ap, ◌∙◌, ◌≡◌, ◌+◌, ◌-◌, ◌*◌, ℕ, length, take, get_or}
use Rattle.fw_list.specs.Numbers.{u32}
use Rattle.fw_lamport.proofs.Splicing.{numbers_so_far}
use Rattle.fw_lamport.proofs.place.put_numbers.Goals as goal

pub loop-k-preserved : goal.loop-k-preserved
loop-k-preserved c =
    let k : ℕ = c.loop-k.k in
    let part : c.copy_from_slice.new.self ≡ u32 (get_or c.args.numbers.now k 0) = c.copy_from_slice.ensures.after ∙ c.bytes_of.ensures.value in
    let long : length c.copy_from_slice.new.self ≡ 4 = ap length c.copy_from_slice.ensures.after ∙ c.bytes_of.ensures.len in
    let all : length c.args.numbers.now ≡ 6 = omega arith in
    record {
      len = omega (arith, long, c.loop-k.invariant.len, c.loop-k-test.true);
      so_far = numbers_so_far k (4 * k + 5 - (4 * k + 1)) (take 1 c.args.out.now) c.loop-k.out c.copy_from_slice.new.self c.args.numbers.now (omega (arith, all)) (omega (arith, c.loop-k.invariant.len)) long part c.loop-k.invariant.so_far;
    }
