-- Ranges of numbers, and what is made of their numbers.
use Rattle.std.proofs.Common.{◌≡◌, ℕ, zero, suc, ◌+◌, ◌<◌, ◌≤◌, List, [], ◌∷◌, ◌++◌, length, take, get_or, map, refl, sym, ap, ◌∙◌, arith}
use Rattle.std.specs.List.{range_with_len}
use Rattle.std.proofs.lemmas.List.FromFn.{fill_by_all, take-map-range_with_len}
use Rattle.fw_list.specs.Lists.{numbers_from}

-- std's word for the same
pub is_range : (first count : ℕ) → numbers_from first count ≡ range_with_len first count
is_range first zero = refl
is_range first (suc count) = ap (λ (xs : List ℕ). first ∷ xs) (is_range (first + 1) count)

-- the last number of a range
pub one_number_more : (first count : ℕ) → numbers_from first (suc count) ≡ numbers_from first count ++ (first + count) ∷ []
one_number_more first zero = let same : first ≡ first + 0 = omega arith in ap (λ (n : ℕ). n ∷ []) same
one_number_more first (suc count) =
    let same : first + 1 + count ≡ first + suc count = omega arith in
    ap (λ (xs : List ℕ). first ∷ xs) (one_number_more (first + 1) count ∙ ap (λ (n : ℕ). numbers_from (first + 1) count ++ n ∷ []) same)

-- two functions that are one on a range
pub map_same : {A : Type 0} (f g : ℕ → A) (first count : ℕ) → ((k : ℕ) → k < first + count → f k ≡ g k) → map f (numbers_from first count) ≡ map g (numbers_from first count)
map_same f g first zero same = refl
map_same f g first (suc count) same =
    ap (λ x. x ∷ map f (numbers_from (first + 1) count)) (same first (omega arith))
    ∙ ap (λ xs. g first ∷ xs) (map_same f g (first + 1) count (λ k below. same k (omega arith)))

-- a list that has a function's values
pub written : (f : ℕ → ℕ) (xs : List ℕ) (count : ℕ) → length xs ≡ count → ((k : ℕ) → k < count → get_or xs k 0 ≡ f k) → xs ≡ map f (numbers_from 0 count)
written f xs count long each = fill_by_all f xs count 0 long each ∙ ap (map f) (sym (is_range 0 count))

-- the front of such a list
pub front_of : (f : ℕ → ℕ) (count k : ℕ) → k ≤ count → take k (map f (numbers_from 0 count)) ≡ map f (numbers_from 0 k)
front_of f count k within =
    ap (λ (xs : List ℕ). take k (map f xs)) (is_range 0 count) ∙ take-map-range_with_len f 0 count k within ∙ ap (map f) (sym (is_range 0 k))
