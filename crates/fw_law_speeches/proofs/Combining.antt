-- What shares make of a number is what those of that number make.
use Rattle.std.proofs.Common.{ℕ, ◌+◌, ◌≡◌, Bool, false, cond, ◌&&◌, nat_eq, nat_le, List, [], ◌∷◌, ◌++◌, length, Option, Some, None, refl, ◌∙◌, ap, append-nil}
use Rattle.std.specs.Prelude.{filter}
use Rattle.std.proofs.lemmas.List.Elements.{filter-append}
use Rattle.fw_trace.specs.declared.Share as shares
use Rattle.fw_frame.specs.View.{Replies}
use Rattle.fw_means.specs.Means.{when}
use Rattle.fw_rules.specs.Means.{Means}
use Rattle.fw_rules.specs.Choices.{first_some}
use Rattle.fw_rules.specs.Roles.{Valued, same_answers, is_equal, joined, combined_with, combined_of, filter_speech}
use Rattle.fw_law_words.proofs.Firsts.{first_some-more}
use Rattle.fw_law_filter.specs.Heard.{CombinesByNumber}

-- one that fails the test changes nothing
filter-failed : {A : Type 0} (p : A → Bool) (xs : List A) (y : A) → p y ≡ false → filter p (xs ++ y ∷ []) ≡ filter p xs
filter-failed p xs y e =
    filter-append p xs (y ∷ []) ∙ ap (λ (b : Bool). filter p xs ++ cond b (y ∷ []) []) e ∙ append-nil (filter p xs)

first_some-same : {A B : Type 0} (f g : A → Option B) (xs : List A) → ((x : A) → f x ≡ g x) → first_some f xs ≡ first_some g xs
first_some-same f g [] same = refl
first_some-same {B = B} f g (x ∷ xs) same =
    ap (λ (o : Option B). elim o [ Some y ↦ Some y | None ↦ first_some f xs ]) (same x)
    ∙ ap (λ (o : Option B). elim (g x) [ Some y ↦ Some y | None ↦ o ]) (first_some-same f g xs same)

module _ {M : Type 0} (k : Means M) (n : ℕ) where
  not_equal : (s t : shares.Share Valued) → nat_eq t.number n ≡ false → is_equal n s t ≡ false
  not_equal s t e = ap (λ (b : Bool). b && same_answers t.value.0 s.value.0) e

  not_this : (kept : List (shares.Share Valued)) (s : shares.Share Valued) → nat_eq s.number n ≡ false → combined_with k n kept s ≡ None
  not_this kept s e =
      let equal = filter (is_equal n s) kept in
      ap (λ (b : Bool). when (b && nat_le (k.params.g + 1) (length equal)) (Some (k.write (Replies (joined k n s.value.0 equal))))) e

  with_other : (kept : List (shares.Share Valued)) (s t : shares.Share Valued) → nat_eq s.number n ≡ false → combined_with k n (kept ++ s ∷ []) t ≡ combined_with k n kept t
  with_other kept s t e =
      ap (λ (equal : List (shares.Share Valued)). when (nat_eq t.number n && nat_le (k.params.g + 1) (length equal)) (Some (k.write (Replies (joined k n t.value.0 equal)))))
      (filter-failed (is_equal n t) kept s (not_equal t s e))

  others : (kept : List (shares.Share Valued)) (s : shares.Share Valued) → nat_eq s.number n ≡ false → combined_of k n (kept ++ s ∷ []) ≡ combined_of k n kept
  others kept s e =
      first_some-more (combined_with k n (kept ++ s ∷ [])) kept s (not_this (kept ++ s ∷ []) s e)
      ∙ first_some-same (combined_with k n (kept ++ s ∷ [])) (combined_with k n kept) kept (λ t. with_other kept s t e)

pub combines_by_number : {M : Type 0} (k : Means M) (r c : ℕ) → CombinesByNumber (filter_speech k r c)
combines_by_number k r c = record { nothing = λ n. refl; others = λ n kept s e. others k n kept s e }
