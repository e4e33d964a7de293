-- The best of the proofs so far.
use Rattle.fw_view.specs.Choices.{IsSoFar, before, seen}
use Rattle.fw_view.proofs.chosen.best_after.Given as goal

abbrev pub invariant-loop-j : goal.invariant-loop-j
invariant-loop-j l = IsSoFar (seen l.changes) l.number (before (seen l.changes) l.k l.j) l.best
