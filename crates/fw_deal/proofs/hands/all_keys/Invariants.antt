use Rattle.std.proofs.Common.{◌≡◌, map}
use Rattle.fw_list.specs.Lists.{numbers_from}
use Rattle.fw_deal.specs.Deals.{key_of}
use Rattle.fw_deal.proofs.hands.all_keys.Given as goal

abbrev pub invariant-loop-client : goal.invariant-loop-client
invariant-loop-client l = l.keys ≡ map (key_of (record { params = l.fn.params; seed = l.fn.seed })) (numbers_from 0 l.client)
