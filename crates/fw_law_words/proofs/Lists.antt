-- What stands in a list that is made of a list, and in a list of numbers.
use Rattle.std.proofs.Common.{ℕ, zero, suc, ◌+◌, ◌<◌, ◌≤◌, ◌≡◌, inl, inr, Bool, true, false, nat_eq, List, [], ◌∷◌, map, take, arith, refl, ◌∙◌, ap, Option, filter, filter_map}
use Rattle.std.specs.List.{cons_option}
use Rattle.std.proofs.lemmas.Bool.{cond-true, cond-false, cases_Bool, eqb-false, eqb-true}
use Rattle.fw_list.specs.Lists.{numbers_from}
use Rattle.fw_trace.specs.Lists.{In}

pub In-map : {A B : Type 0} (f : A → B) (xs : List A) (y : B) → In y (map f xs) → (x : A) × In x xs × (y ≡ f x)
In-map f [] y i = absurd i
In-map f (x ∷ xs) y (inl e) = (x, inl refl, e)
In-map f (x ∷ xs) y (inr i) = let rest = In-map f xs y i in (rest.0, inr rest.1, rest.2)

pub In-take : {A : Type 0} (k : ℕ) (xs : List A) (x : A) → In x (take k xs) → In x xs
In-take zero xs x i = absurd i
In-take (suc k) [] x i = absurd i
In-take (suc k) (y ∷ xs) x (inl e) = inl e
In-take (suc k) (y ∷ xs) x (inr i) = inr (In-take k xs x i)

pub filter-here : {A : Type 0} (p : A → Bool) (x : A) (xs : List A) → p x ≡ true → filter p (x ∷ xs) ≡ x ∷ filter p xs
filter-here p x xs e = cond-true (p x) _ _ e

pub filter-skip : {A : Type 0} (p : A → Bool) (x : A) (xs : List A) → p x ≡ false → filter p (x ∷ xs) ≡ filter p xs
filter-skip p x xs e = cond-false (p x) _ _ e

pub filter-nothing : {A : Type 0} (p : A → Bool) (xs : List A) → ((x : A) → p x ≡ false) → filter p xs ≡ []
filter-nothing p [] none = refl
filter-nothing p (x ∷ xs) none = cond-false (p x) (x ∷ filter p xs) (filter p xs) (none x) ∙ filter-nothing p xs none

pub map_same : {A B : Type 0} (f g : A → B) (xs : List A) → ((x : A) → f x ≡ g x) → map f xs ≡ map g xs
map_same f g [] same = refl
map_same {A} {B} f g (x ∷ xs) same = ap (λ (y : B). y ∷ map f xs) (same x) ∙ ap (λ (ys : List B). g x ∷ ys) (map_same f g xs same)

pub filter_map-same : {A B : Type 0} (f g : A → Option B) (xs : List A) → ((x : A) → f x ≡ g x) → filter_map f xs ≡ filter_map g xs
filter_map-same f g [] same = refl
filter_map-same {B = B} f g (x ∷ xs) same =
    ap (λ (o : Option B). cons_option o (filter_map f xs)) (same x) ∙ ap (λ (l : List B). cons_option (g x) l) (filter_map-same f g xs same)

-- ---- numbers in order

pub In-numbers : (n first count : ℕ) → In n (numbers_from first count) → (first ≤ n) × (n < first + count)
In-numbers n first zero i = absurd i
In-numbers n first (suc count) (inl e) = (omega arith, omega arith)
In-numbers n first (suc count) (inr i) = let r = In-numbers n (first + 1) count i in (omega (arith, r.0), omega (arith, r.1))

pub numbers-In : (n first count : ℕ) → first ≤ n → n < first + count → In n (numbers_from first count)
numbers-In n first zero low high = absurd (omega arith)
numbers-In n first (suc count) low high = elim (cases_Bool (nat_eq n first)) [
  | inl e ↦ inl (eqb-true n first e)
  | inr e ↦ inr (numbers-In n (first + 1) count (let differ = eqb-false n first e in omega arith) (omega arith))
]
