-- The best of the changes so far.
use Rattle.std.proofs.Common.{take}
use Rattle.fw_view.specs.Choices.{IsSoFar, all_proofs, seen}
use Rattle.fw_view.proofs.chosen.choice.Given as goal

abbrev pub invariant-loop-k : goal.invariant-loop-k
invariant-loop-k l = IsSoFar (seen l.changes) l.number (all_proofs (take l.k (seen l.changes))) l.best
