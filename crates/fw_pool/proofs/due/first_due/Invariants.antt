-- No frame so far is due.
use Rattle.std.proofs.Common.{◌≡◌, ◌<◌, ℕ, false}
use Rattle.fw_step.specs.Fitting.{is_correct}
use Rattle.fw_pool.specs.Due.{due_at}
use Rattle.fw_pool.proofs.due.first_due.Given as goal

abbrev pub invariant-loop-k : goal.invariant-loop-k
invariant-loop-k l = (j : ℕ) → j < l.k → due_at (is_correct l.params l.faulty) l.marks l.frames j ≡ false
