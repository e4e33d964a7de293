-- One pair more fits.
use Rattle.std.proofs.Common.{[], ◌∷◌, All, IsTrue, sym, subst}
use Rattle.std.proofs.lemmas.List.Elements.{All-nil, All-cons, All-append}
use Rattle.fw_base.specs.Places.{place_fits}
use Rattle.fw_frame.specs.declared.shown.Shown.{Shown}
use Rattle.try_know.proofs.kept.carried_of.Goals as goal

pub loop-word-preserved : goal.loop-word-preserved
loop-word-preserved c =
    let P = λ (pair : Shown). IsTrue (place_fits c.args.params.now pair.place) in
    let s = c.in-Some.shown in
    subst (All P) (sym c.in_ok-push.ensures.ok) (All-append P c.loop-word.pairs (s ∷ []) c.loop-word.invariant (All-cons P s [] c.in-Some.ensures (All-nil P)))
