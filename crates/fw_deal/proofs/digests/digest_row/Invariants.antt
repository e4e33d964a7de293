use Rattle.std.proofs.Common.{◌≡◌, ◌*◌, length, take}
use Rattle.std.specs.List.{flat_map}
use Rattle.fw_list.specs.Lists.{numbers_from}
use Rattle.fw_text.specs.Bits.{value_at}
use Rattle.fw_text.specs.Texts.{hash, Value}
use Rattle.fw_lamport.specs.Signature.{place_at}
use Rattle.fw_deal.proofs.digests.digest_row.Given as goal

abbrev pub invariant-loop-k : goal.invariant-loop-k
invariant-loop-k l = record {
  whole : length l.row ≡ 16384;
  so_far : take (32 * l.k) l.row ≡ flat_map (λ k. hash (Value (place_at l.fn.slot l.fn.point k) (value_at l.fn.values k))) (numbers_from 0 l.k);
}
