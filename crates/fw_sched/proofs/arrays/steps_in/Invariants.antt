-- What holds while the loop of `steps_in` runs.
use Rattle.std.proofs.Common.{[], take, ◌≤◌, ◌<◌, ℕ, slice_index, length, ◌≡◌}
use Rattle.fw_sched.specs.Document.{IsStep}
use Rattle.fw_sched.specs.Reading.{Reads}
use Rattle.fw_sched.specs.Stages.{texts_in, AreCounts}
use Rattle.fw_sched.proofs.arrays.steps_in.Given as goal

-- the values so far are read
abbrev pub invariant-loop-value : goal.invariant-loop-value
invariant-loop-value l = record {
  read : Reads (IsStep l.params l.faulty) [] (texts_in (take l.value-index l.values)) l.steps;
  counts : AreCounts l.counts l.steps;
  few : (c : ℕ) → c < 8 → slice_index l.counts c ≤ l.value-index;
  eight : length l.counts ≡ 8;
}
