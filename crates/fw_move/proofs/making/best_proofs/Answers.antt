-- The best proof of one number more, where there is one.
use Rattle.std.proofs.Common.{◌≡◌, ◌+◌, ◌<◌, ◌≤◌, [], ◌∷◌, ◌++◌, length, map, ◌∙◌, ap, sym, subst, arith}
use Rattle.std.specs.Option.{option_copied, option_map}
use Rattle.std.proofs.lemmas.List.{map-append, length-append}
use Rattle.fw_owned.specs.Pieces.{proof_of}
use Rattle.fw_move.proofs.Best.{number_with, number_without, best_at}
use Rattle.fw_move.proofs.making.best_proofs.Goals as goal
use Rattle.fw_move.proofs.making.best_proofs.Goals.{in-Some+in_ok-copy+in_ok-push, in_default}

pub loop-k-preserved : goal.loop-k-preserved
loop-k-preserved c =
    let numbers = c.args.directory.now.params.numbers in
    let k = c.loop-k.k in
    let old = c.loop-k.proofs in
    let kept = c.args.keeps.now.proofs in
    let below : k < numbers = subst (λ p. k < p.numbers) c.params.ensures.same c.loop-k-test.true in
    let few : length old ≤ k = c.loop-k.invariant.few in
    elim c.match-best_proof.branch [
      | in-Some+in_ok-copy+in_ok-push w ↦
          let item = w.in_ok-copy.field-0 in
          let more : length (old ++ item ∷ []) ≡ length old + 1 = length-append old (item ∷ []) in
          rw (w.proofs-is, w.in_ok-push.ensures.ok) (record {
            parts = number_with (best_at kept) (map proof_of old) (map proof_of (old ++ item ∷ [])) _ (proof_of w.in-Some.proof.now) k numbers below
                (sym c.best_proof.ensures ∙ ap (λ o. option_map proof_of (option_copied o)) w.in-Some.is)
                (map-append proof_of old (item ∷ []) ∙ ap (λ x. map proof_of old ++ proof_of x ∷ []) w.in_ok-copy.ensures) c.loop-k.invariant.parts;
            few = let small : length (old ++ item ∷ []) ≤ k + 1 = omega arith in small;
          })
      | in_default w ↦
          let more : length old ≤ k + 1 = omega arith in
          rw w.proofs-is (record {
            parts = number_without (best_at kept) (map proof_of old) _ k numbers below (sym c.best_proof.ensures ∙ ap (λ o. option_map proof_of (option_copied o)) w.in_default.is) c.loop-k.invariant.parts;
            few = more;
          })
    ]
