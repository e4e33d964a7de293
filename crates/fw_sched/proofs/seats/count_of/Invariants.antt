-- What holds while the loop of `count_of` runs.
use Rattle.std.proofs.Common.{◌≡◌, ◌+◌, ◌≤◌, drop}
use Rattle.fw_sched.specs.Document.{count_of}
use Rattle.fw_sched.proofs.seats.count_of.Given as goal

abbrev pub invariant-loop-other : goal.invariant-loop-other
invariant-loop-other l = record {
  count : count_of l.seat l.seats ≡ l.count + count_of l.seat (drop l.other-index l.seats);
  few : l.count ≤ l.other-index;
}
