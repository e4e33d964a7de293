use Rattle.std.proofs.Common.{◌≡◌, length, map, take}
use Rattle.fw_deal.specs.Deals.{held_at}
use Rattle.fw_deal.proofs.hands.held_of.Given as goal

abbrev pub invariant-loop-k : goal.invariant-loop-k
invariant-loop-k l = record {
  values : length l.values ≡ 16384;
  held : l.held ≡ map (held_at (record { params = l.fn.params; seed = l.fn.seed }) l.fn.point) (take l.k l.fn.slots);
}
