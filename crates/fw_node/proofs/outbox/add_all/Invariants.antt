-- What was there stays in front, and with what is left to send it will be all.
use Rattle.std.proofs.Common.{◌≡◌, ◌++◌, length, take, drop}
use Rattle.fw_trace.specs.Client as clients
use Rattle.fw_node.proofs.outbox.add_all.Given as goal

abbrev pub invariant-loop-seat : goal.invariant-loop-seat
invariant-loop-seat l = record {
  begins : take (length l.fn.out) l.out ≡ l.fn.out;
  whole : l.out ++ clients.to_all (drop l.seat-index l.to) l.bytes ≡ l.fn.out ++ clients.to_all l.to l.bytes;
}
