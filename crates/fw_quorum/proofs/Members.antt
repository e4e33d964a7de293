-- What stands in a list, by its first element and the rest.
use Rattle.std.proofs.Common.{ℕ, zero, suc, ◌+◌, ◌<◌, ◌≤◌, ◌≡◌, ◌⊎◌, inl, inr, List, [], ◌∷◌, length, get_or, map, flat_map, Contains, refl, sym, subst, arith}
use Rattle.std.proofs.lemmas.Bool.{cases_order}
use Rattle.std.proofs.lemmas.List.Elements.{Contains-append_left, Contains-append_right}
use Rattle.fw_list.specs.Lists.{numbers_from}

pub contains_none : {A : Type 0} (x : A) → Contains [] x → ⊥
contains_none x h = omega (arith, h.1)

pub contains_first : {A : Type 0} (x : A) (xs : List A) → Contains (x ∷ xs) x
contains_first x xs = (0, omega arith, refl)

pub contains_later : {A : Type 0} (y : A) (xs : List A) (x : A) → Contains xs x → Contains (y ∷ xs) x
contains_later y xs x h = (suc h.0, omega (arith, h.1), h.2)

pub contains_cases : {A : Type 0} (y : A) (xs : List A) (x : A) → Contains (y ∷ xs) x → (y ≡ x) ⊎ Contains xs x
contains_cases {A = A} y xs x h = at h.0 h.1 h.2
  where
    at : (k : ℕ) → k < length (y ∷ xs) → get_or (y ∷ xs) k x ≡ x → (y ≡ x) ⊎ Contains xs x
    at zero l e = inl e
    at (suc k) l e = inr (k, omega (arith, l), e)

pub contains_map : {A B : Type 0} (g : A → B) (xs : List A) (y : B) → Contains (map g xs) y → (x : A) × Contains xs x × (g x ≡ y)
contains_map g [] y h = absurd (contains_none y h)
contains_map g (x ∷ xs) y h = elim (contains_cases (g x) (map g xs) y h) [
  | inl e ↦ (x, contains_first x xs, e)
  | inr r ↦ let m = contains_map g xs y r in (m.0, contains_later x xs m.0 m.1, m.2)
]

pub contains_flat_map : {A B : Type 0} (g : A → List B) (xs : List A) (x : A) (y : B) → Contains xs x → Contains (g x) y → Contains (flat_map g xs) y
contains_flat_map g [] x y h k = absurd (contains_none x h)
contains_flat_map {B = B} g (z ∷ xs) x y h k = elim (contains_cases z xs x h) [
  | inl e ↦ Contains-append_left (g z) (flat_map g xs) y (subst (λ w. Contains (g w) y) (sym e) k)
  | inr r ↦ Contains-append_right (g z) (flat_map g xs) y (contains_flat_map g xs x y r k)
]

pub contains_numbers : (x first count : ℕ) → first ≤ x → x < first + count → Contains (numbers_from first count) x
contains_numbers x first zero low high = absurd (omega (arith, low, high))
contains_numbers x first (suc count) low high = elim (eq_or_later x first low) [
  | inl e ↦ subst (λ y. Contains (first ∷ numbers_from (first + 1) count) y) e (contains_first first (numbers_from (first + 1) count))
  | inr l ↦ contains_later first (numbers_from (first + 1) count) x (contains_numbers x (first + 1) count l (omega (arith, high)))
]
  where
    eq_or_later : (x first : ℕ) → first ≤ x → (first ≡ x) ⊎ (first + 1 ≤ x)
    eq_or_later x first low = elim (cases_order first x) [
      | inl e ↦ inl e
      | inr (inl l) ↦ inr (omega (arith, l))
      | inr (inr l) ↦ absurd (omega (arith, low, l))
    ]

pub numbers_within : (x first count : ℕ) → Contains (numbers_from first count) x → (first ≤ x) × (x < first + count)
numbers_within x first zero h = absurd (contains_none x h)
numbers_within x first (suc count) h = elim (contains_cases first (numbers_from (first + 1) count) x h) [
  | inl e ↦ (omega (arith, e), omega (arith, e))
  | inr r ↦ let m = numbers_within x (first + 1) count r in (omega (arith, m.0), omega (arith, m.1))
]
