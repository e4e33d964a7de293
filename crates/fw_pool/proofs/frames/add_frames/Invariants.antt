-- What is left to add makes all, and the frames begin as before.
use Rattle.std.proofs.Common.{◌≡◌, ◌++◌, map, drop, take, length}
use Rattle.fw_trace.specs.Trace.{from_seat}
use Rattle.fw_node.specs.Histories.{out_of}
use Rattle.fw_pool.proofs.frames.add_frames.Given as goal

abbrev pub invariant-loop-sent : goal.invariant-loop-sent
invariant-loop-sent l = record {
  rest : l.frames.items ++ from_seat l.from (map out_of (drop l.sent-index l.out)) ≡ l.fn.frames.items ++ from_seat l.from (map out_of l.out);
  begins : take (length l.fn.frames.items) l.frames.items ≡ l.fn.frames.items;
}
