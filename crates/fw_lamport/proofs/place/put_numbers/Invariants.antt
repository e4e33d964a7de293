use Rattle.std.proofs.Common.{◌≡◌, ◌+◌, ◌*◌, ◌++◌, length, take}
use Rattle.std.specs.List.{flat_map}
use Rattle.fw_list.specs.Numbers.{u32}
use Rattle.fw_lamport.proofs.place.put_numbers.Given as goal

abbrev pub invariant-loop-k : goal.invariant-loop-k
invariant-loop-k l = record {
  len : length l.out ≡ 25;
  so_far : take (4 * l.k + 1) l.out ≡ take 1 l.fn.out ++ flat_map u32 (take l.k l.fn.numbers);
}
