-- The history so far can be taken.
use Rattle.std.proofs.Common.{All}
use Rattle.fw_plain.specs.Kept.{CanBeTaken}
use Rattle.try_plain.proofs.compared.compared.Given as goal

abbrev pub invariant-loop-turn : goal.invariant-loop-turn
invariant-loop-turn g l = All CanBeTaken l.history
