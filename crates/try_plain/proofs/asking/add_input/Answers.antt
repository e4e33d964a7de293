-- The inputs so far can be taken, and so can this.
use Rattle.std.proofs.Common.{List, [], ◌∷◌, All, sym, subst}
use Rattle.std.proofs.lemmas.List.Elements.{All-nil, All-cons, All-append}
use Rattle.fw_plain.specs.declared.kept.Kept.{Kept}
use Rattle.fw_plain.specs.Kept.{CanBeTaken}
use Rattle.try_plain.proofs.asking.add_input.Goals as goal

pub returns-clause-given : goal.returns-clause-given
returns-clause-given c =
    subst (λ (xs : List Kept). All CanBeTaken xs) (sym c.in_ok-push.ensures.ok)
    (All-append CanBeTaken c.args.history.now (c.args.input ∷ []) c.requires.before (All-cons CanBeTaken c.args.input [] c.requires.input (All-nil CanBeTaken)))
