-- Where the frames that are left lead, all lead.
use Rattle.std.proofs.Common.{◌≡◌, ◌≤◌, map, drop}
use Rattle.fw_node.specs.Histories.{out_of}
use Rattle.fw_rules.specs.declared.limits.TheConstants.{MOST_FRAMES, MOST_BYTES}
use Rattle.fw_pool.specs.Room.{room}
use Rattle.fw_pool.proofs.frames.room.Given as goal

abbrev pub invariant-loop-sent : goal.invariant-loop-sent
invariant-loop-sent l = record {
  rest : room l.fn.frames l.fn.bytes (map out_of l.out) ≡ room l.count l.sum (map out_of (drop l.sent-index l.out));
  few : l.count ≤ MOST_FRAMES;
  small : l.sum ≤ MOST_BYTES;
}
