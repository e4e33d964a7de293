-- What was added so far.
use Rattle.std.proofs.Common.{◌≡◌, ◌++◌}
use Rattle.fw_list.specs.Lists.{numbers_from}
use Rattle.fw_hand.proofs.slots.add_clients.Given as goal

abbrev pub invariant-loop-client : goal.invariant-loop-client
invariant-loop-client l = l.clients ≡ l.fn.clients ++ numbers_from 0 l.client
