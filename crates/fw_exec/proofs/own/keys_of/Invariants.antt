-- The keys so far are those of the first clients.
use Rattle.fw_exec.specs.Executors.{AreKeysOf}
use Rattle.fw_exec.proofs.own.keys_of.Given as goal

abbrev pub invariant-loop-client : goal.invariant-loop-client
invariant-loop-client l = AreKeysOf l.hand.keys l.client l.keys
