-- Arrays of texts.
use Rattle.std.proofs.Common.{◌≡◌, ℕ, true, false, List, [], ◌∷◌, Option, None, Some, option_map, is_some, unwrap_or, inl, inr, refl, option_and_then}
use Rattle.std.proofs.lemmas.Bool.{and_parts, and_cases}
use Rattle.std.specs.List.{list_all}
use Rattle.toml.specs.Data.{as_str}
use Rattle.toml.specs.View.{view, items_view}
use Rattle.toml.specs.declared.value.Value.{Value}
use Rattle.fw_sched.specs.Members.{texts_of}
use Rattle.fw_sched.specs.Stages.{texts_in}

text_step : (o : Option (List ℕ)) (rest : Option (List (List ℕ))) (texts : List (List ℕ)) → is_some o ≡ true → rest ≡ Some texts → option_and_then (λ text. option_map (λ ts. text ∷ ts) rest) o ≡ Some (unwrap_or o [] ∷ texts)
text_step None rest texts h e = absurd (cc)
text_step (Some text) rest texts h e = rw e refl

pub all_texts : (vs : List Value) → list_all (λ v. is_some (as_str (view v))) vs ≡ true → texts_of (items_view vs) ≡ Some (texts_in vs)
all_texts [] all = refl
all_texts (v ∷ vs) all =
    let both = and_parts (is_some (as_str (view v))) (list_all (λ v. is_some (as_str (view v))) vs) all in
    text_step (as_str (view v)) (texts_of (items_view vs)) (texts_in vs) both.0 (all_texts vs both.1)

no_text : (o : Option (List ℕ)) (rest : Option (List (List ℕ))) → is_some o ≡ false → option_and_then (λ text. option_map (λ ts. text ∷ ts) rest) o ≡ None
no_text None rest h = refl
no_text (Some text) rest h = absurd (cc)

no_rest : (o : Option (List ℕ)) (rest : Option (List (List ℕ))) → rest ≡ None → option_and_then (λ text. option_map (λ ts. text ∷ ts) rest) o ≡ None
no_rest None rest h = refl
no_rest (Some text) rest h = rw h refl

pub not_all_texts : (vs : List Value) → list_all (λ v. is_some (as_str (view v))) vs ≡ false → texts_of (items_view vs) ≡ None
not_all_texts [] all = absurd (cc)
not_all_texts (v ∷ vs) all =
    elim (and_cases (is_some (as_str (view v))) (list_all (λ v. is_some (as_str (view v))) vs) all) [
      | inl here ↦ no_text (as_str (view v)) (texts_of (items_view vs)) here
      | inr later ↦ no_rest (as_str (view v)) (texts_of (items_view vs)) (not_all_texts vs later)
    ]
