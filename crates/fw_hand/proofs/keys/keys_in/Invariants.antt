-- How far the list has been read.
use Rattle.std.proofs.Common.{drop}
use Rattle.fw_hand.specs.Files.{held_key_bytes}
use Rattle.fw_hand.specs.Hands.{IsKey, clients_of}
use Rattle.fw_hand.proofs.Along.{SoFar}
use Rattle.fw_hand.proofs.keys.keys_in.Given as goal

abbrev pub invariant-loop-client : goal.invariant-loop-client
invariant-loop-client l = SoFar held_key_bytes (λ k. k.client) IsKey (clients_of l.params l.fn.seat) (drop l.client-index l.client-items) l.fn.reader l.keys l.reader
