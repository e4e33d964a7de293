-- Those so far, and those that are left.
use Rattle.std.proofs.Common.{◌≡◌, ◌+◌, ◌≤◌, drop}
use Rattle.fw_step.specs.Fitting.{is_correct}
use Rattle.fw_pool.specs.Notes.{Frames, log_of}
use Rattle.fw_pool.specs.Counts.{submissions}
use Rattle.fw_pool.proofs.counts.submissions.Given as goal

abbrev pub invariant-loop-k : goal.invariant-loop-k
invariant-loop-k l = record {
  few : l.count ≤ l.k;
  all : (frames : Frames) → l.count + submissions (is_correct l.params l.faulty) (log_of frames (drop l.k l.log)) ≡ submissions (is_correct l.params l.faulty) (log_of frames l.log);
}
