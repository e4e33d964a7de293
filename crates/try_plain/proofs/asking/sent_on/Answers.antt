-- The copy is the same input.
use Rattle.std.proofs.Common.{sym, subst}
use Rattle.fw_plain.specs.declared.kept.Kept.{Kept}
use Rattle.fw_plain.specs.Kept.{CanBeTaken}
use Rattle.try_plain.proofs.asking.sent_on.Goals as goal

pub add_input-requires-clause-input : goal.add_input-requires-clause-input
add_input-requires-clause-input g c = subst (λ (k : Kept). CanBeTaken k) (sym c.in_ok-copy.ensures) c.requires.input
