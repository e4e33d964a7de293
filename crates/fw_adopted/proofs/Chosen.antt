-- The choice that is computed from a frame is the choice of the rule.
use Rattle.std.proofs.Common.{◌≡◌, ℕ, List, [], ◌∷◌, Option, Some, None, refl, sym, ap, ◌∙◌}
use Rattle.fw_frame.specs.View.{Proof, Change}
use Rattle.fw_view.specs.Choices as choices
use Rattle.fw_view.specs.declared.chosen.Chosen.{Chosen}
use Rattle.fw_rules.specs.Agree as agree
use Rattle.fw_rules.specs.Agree.{entry_or_null, choice}

same_better : (p : Proof) (o : Option Proof) → choices.better p o ≡ agree.better p o
same_better p None = refl
same_better p (Some q) = refl

same_best : (ps : List Proof) → choices.best ps ≡ agree.best ps
same_best [] = refl
same_best (p ∷ ps) = ap (choices.better p) (same_best ps) ∙ same_better p (agree.best ps)

-- the best proof of all of a number
best_is_choice : (cs : List Change) (n : ℕ) → entry_or_null (choices.best_of cs n) ≡ choice cs n
best_is_choice cs n = ap entry_or_null (same_best (agree.proofs_of n (agree.all_proofs cs)))

-- what a frame's changes choose, where they are seen as these
pub chosen_is_choice : (seen cs : List Change) (n : ℕ) (c : Chosen) → seen ≡ cs → choices.chosen_proof seen c ≡ choices.best_of seen n → entry_or_null (choices.chosen_proof cs c) ≡ choice cs n
chosen_is_choice seen cs n c same is =
    ap (λ (l : List Change). entry_or_null (choices.chosen_proof l c)) (sym same)
    ∙ ap entry_or_null is
    ∙ best_is_choice seen n
    ∙ ap (λ (l : List Change). choice l n) same
