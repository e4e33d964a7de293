use Rattle.std.proofs.Common.{◌≡◌, map, take}
use Rattle.fw_deal.specs.Deals.{key_of}
use Rattle.fw_deal.proofs.hands.keys_of.Given as goal

abbrev pub invariant-loop-k : goal.invariant-loop-k
invariant-loop-k l = l.keys ≡ map (key_of (record { params = l.fn.params; seed = l.fn.seed })) (take l.k l.fn.clients)
