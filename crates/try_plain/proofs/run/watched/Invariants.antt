-- What befell so far can be taken.
use Rattle.std.proofs.Common.{All}
use Rattle.try_plain.specs.Turns.{WasTaken}
use Rattle.try_plain.proofs.run.watched.Given as goal

abbrev pub invariant-loop-step : goal.invariant-loop-step
invariant-loop-step g l = All WasTaken l.turns
