-- What is found first in a list.
use Rattle.std.proofs.Common.{◌≡◌, inl, inr, List, [], ◌∷◌, ◌++◌, refl, sym, ◌∙◌, ap, subst, Option, Some, None}
use Rattle.std.proofs.lemmas.Option.{none-some}
use Rattle.fw_trace.specs.Lists.{In}
use Rattle.fw_rules.specs.Choices.{first_some}

-- what was found was found at an element
pub first_some-in : {A B : Type 0} (f : A → Option B) (xs : List A) (y : B) → first_some f xs ≡ Some y → (x : A) × In x xs × (f x ≡ Some y)
first_some-in f [] y e = absurd (none-some y e)
first_some-in {A = A} {B = B} f (x ∷ xs) y e = at_head (f x) refl e (first_some-in f xs y)
  where
    at_head : (o : Option B) → f x ≡ o → elim o [ Some z ↦ Some z | None ↦ first_some f xs ] ≡ Some y → (first_some f xs ≡ Some y → (w : A) × In w xs × (f w ≡ Some y)) → (w : A) × (In w (x ∷ xs)) × (f w ≡ Some y)
    at_head (Some z) d k rest = (x, inl refl, d ∙ k)
    at_head None d k rest = let r = rest k in (r.0, inr r.1, r.2)

-- where nothing was found, nothing is found at an element
pub first_some-none : {A B : Type 0} (f : A → Option B) (xs : List A) (x : A) → first_some f xs ≡ None → In x xs → f x ≡ None
first_some-none f [] x e i = absurd i
first_some-none {A = A} {B = B} f (z ∷ xs) x e i = at_head (f z) refl e i (first_some-none f xs x)
  where
    at_head : (o : Option B) → f z ≡ o → ◌≡◌ {A = Option B} (elim o [ Some y ↦ Some y | None ↦ first_some f xs ]) None → In x (z ∷ xs) → (first_some f xs ≡ None → In x xs → f x ≡ None) → f x ≡ None
    at_head (Some y) d k j rest = absurd (none-some y (sym k))
    at_head None d k (inl s) rest = subst (λ (w : A). f w ≡ None) (sym s) d
    at_head None d k (inr j) rest = rest k j

pub first_some-skip : {A B : Type 0} (f : A → Option B) (x : A) (xs : List A) → f x ≡ None → first_some f xs ≡ None → first_some f (x ∷ xs) ≡ None
first_some-skip {B = B} f x xs e rest = subst (λ (o : Option B). elim o [ Some y ↦ Some y | None ↦ first_some f xs ] ≡ None) (sym e) rest

pub first_some-tail : {A B : Type 0} (f : A → Option B) (x : A) (xs : List A) → first_some f (x ∷ xs) ≡ None → first_some f xs ≡ None
first_some-tail {A = A} {B = B} f x xs e = by (f x) refl e
  where
    by : (o : Option B) → f x ≡ o → ◌≡◌ {A = Option B} (elim o [ Some y ↦ Some y | None ↦ first_some f xs ]) None → first_some f xs ≡ None
    by None d k = k
    by (Some y) d k = absurd (none-some y (sym k))

pub first_some-here : {A B : Type 0} (f : A → Option B) (x : A) (xs : List A) (y : B) → f x ≡ Some y → first_some f (x ∷ xs) ≡ Some y
first_some-here {B = B} f x xs y e = subst (λ (o : Option B). elim o [ Some z ↦ Some z | None ↦ first_some f xs ] ≡ Some y) (sym e) refl

pub first_some-nowhere : {A B : Type 0} (f : A → Option B) (xs : List A) → ((x : A) → f x ≡ None) → first_some f xs ≡ None
first_some-nowhere f [] none = refl
first_some-nowhere f (x ∷ xs) none = first_some-skip f x xs (none x) (first_some-nowhere f xs none)

-- one more in the end, at which nothing is found
pub first_some-more : {A B : Type 0} (f : A → Option B) (xs : List A) (y : A) → f y ≡ None → first_some f (xs ++ y ∷ []) ≡ first_some f xs
first_some-more f [] y e = first_some-skip f y [] e refl
first_some-more {B = B} f (x ∷ xs) y e =
    ap (λ (o : Option B). elim (f x) [ Some z ↦ Some z | None ↦ o ]) (first_some-more f xs y e)
