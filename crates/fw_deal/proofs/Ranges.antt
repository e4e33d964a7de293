-- What holds of all that is made of a range of numbers.
use Rattle.std.proofs.Common.{◌≡◌, ℕ, zero, suc, ◌+◌, ◌<◌, ◌≤◌, List, [], ◌∷◌, ◌++◌, map, length, get_or, refl, ap, ◌∙◌, arith}
use Rattle.std.specs.List.{All, flat_map}
use Rattle.std.proofs.lemmas.List.Elements.{All-nil, All-cons, All-append}
use Rattle.std.proofs.lemmas.List.{map-append}
use Rattle.std.proofs.lemmas.List.FromFn.{length-map-range_with_len, get_or-map-range_with_len}
use Rattle.fw_list.specs.Lists.{numbers_from}
use Rattle.fw_secret.proofs.Ranges.{one_number_more, is_range}

-- of one item for each number
pub all_mapped : {A : Type 0} (P : A → Type 0) (f : ℕ → A) (first count : ℕ) → ((k : ℕ) → first ≤ k → k < first + count → P (f k)) → All P (map f (numbers_from first count))
all_mapped P f first zero each = All-nil P
all_mapped P f first (suc count) each =
    All-cons P (f first) (map f (numbers_from (first + 1) count)) (each first (omega arith) (omega arith))
    (all_mapped P f (first + 1) count (λ k from below. each k (omega arith) (omega arith)))

-- of a list for each number
pub all_flat : {A : Type 0} (P : A → Type 0) (f : ℕ → List A) (first count : ℕ) → ((k : ℕ) → first ≤ k → k < first + count → All P (f k)) → All P (flat_map f (numbers_from first count))
all_flat P f first zero each = All-nil P
all_flat P f first (suc count) each =
    All-append P (f first) (flat_map f (numbers_from (first + 1) count)) (each first (omega arith) (omega arith))
    (all_flat P f (first + 1) count (λ k from below. each k (omega arith) (omega arith)))

-- a part of each item that was its number again
pub part_again : {A B : Type 0} (f : A → B) (g : B → A) (xs : List A) → ((x : A) → g (f x) ≡ x) → map g (map f xs) ≡ xs
part_again f g [] same = refl
part_again f g (x ∷ xs) same = ap (λ y. y ∷ map g (map f xs)) (same x) ∙ ap (λ ys. x ∷ ys) (part_again f g xs same)

-- one item more
pub one_mapped_more : {A : Type 0} (f : ℕ → A) (count : ℕ) → map f (numbers_from 0 (count + 1)) ≡ map f (numbers_from 0 count) ++ f count ∷ []
one_mapped_more f count =
    let next : count + 1 ≡ suc count = omega arith in
    let same : 0 + count ≡ count = omega arith in
    ap (λ (n : ℕ). map f (numbers_from 0 n)) next
    ∙ ap (map f) (one_number_more 0 count)
    ∙ map-append f (numbers_from 0 count) ((0 + count) ∷ [])
    ∙ ap (λ (n : ℕ). map f (numbers_from 0 count) ++ f n ∷ []) same

pub length_mapped : {A : Type 0} (f : ℕ → A) (count : ℕ) → length (map f (numbers_from 0 count)) ≡ count
length_mapped f count = ap (λ xs. length (map f xs)) (is_range 0 count) ∙ length-map-range_with_len f 0 count

-- the item of a number
pub mapped_at : {A : Type 0} (f : ℕ → A) (count k : ℕ) (d : A) → k < count → get_or (map f (numbers_from 0 count)) k d ≡ f k
mapped_at f count k d below = ap (λ xs. get_or (map f xs) k d) (is_range 0 count) ∙ get_or-map-range_with_len f 0 count k k d below (omega arith)
