-- What befell so far can be taken, and so can this.
use Rattle.std.proofs.Common.{List, [], ◌∷◌, All, sym, subst}
use Rattle.std.proofs.lemmas.List.Elements.{All-nil, All-cons, All-append}
use Rattle.try_plain.specs.declared.run.Turn.{Turn}
use Rattle.try_plain.specs.Turns.{WasTaken}
use Rattle.try_plain.proofs.run.add_turn.Goals as goal

pub returns : goal.returns
returns c =
    subst (λ (xs : List Turn). All WasTaken xs) (sym c.in_ok-push.ensures.ok)
    (All-append WasTaken c.args.turns.now (c.args.turn ∷ []) c.requires.before (All-cons WasTaken c.args.turn [] c.requires.turn (All-nil WasTaken)))
