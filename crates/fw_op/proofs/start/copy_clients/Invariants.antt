-- The invariant of the loop of `copy_clients`.
use Rattle.std.proofs.Common.{◌≡◌, take}
use Rattle.fw_op.proofs.start.copy_clients.Given as goal

abbrev pub invariant-loop-client : goal.invariant-loop-client
invariant-loop-client l = l.copy ≡ take l.client-index l.clients
