-- What holds while the loop of `values_for` runs.
use Rattle.std.proofs.Common.{◌≡◌, ◌*◌, length, take}
use Rattle.std.specs.List.{flat_map}
use Rattle.fw_list.specs.Lists.{numbers_from}
use Rattle.fw_lies.specs.Signing.{value_on}
use Rattle.fw_lies.proofs.signing.values_for.Given as goal

abbrev pub invariant-loop-bit : goal.invariant-loop-bit
invariant-loop-bit l = record {
  whole : length l.values ≡ 8192;
  so_far : take (32 * l.bit) l.values ≡ flat_map (value_on l.fn.deal.origin l.fn.slot l.fn.point l.fn.digest) (numbers_from 0 l.bit);
}
