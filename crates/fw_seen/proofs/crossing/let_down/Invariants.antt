-- The numbers so far, and those of the frames that are left.
use Rattle.std.proofs.Common.{◌≡◌, ◌≤◌, ◌++◌, drop, length}
use Rattle.fw_trace.specs.Trace.{crossing}
use Rattle.fw_rules.specs.World.{in_row}
use Rattle.fw_seen.specs.Summary.{reply_numbers}
use Rattle.fw_seen.proofs.crossing.let_down.Given as goal

abbrev pub invariant-loop-sent : goal.invariant-loop-sent
invariant-loop-sent l = record {
  numbers : l.numbers ++ reply_numbers l.params (crossing (in_row l.row) (drop l.sent-index l.pool)) ≡ reply_numbers l.params (crossing (in_row l.row) l.pool);
  few : length l.numbers ≤ l.sent-index;
}
