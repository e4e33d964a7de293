-- What holds of each element, by recursion on the list.
use Rattle.std.proofs.Common.{ℕ, zero, suc, ◌≡◌, inl, inr, List, [], ◌∷◌, ◌++◌, refl, sym, subst, Option, Some, None, map, filter_map, take}
use Rattle.std.specs.Prelude.{flat_map}
use Rattle.std.specs.List.{cons_option}
use Rattle.fw_trace.specs.Lists.{In}

abbrev pub Each : {A : Type 0} → (A → Type 0) → List A → Type 0
Each P [] = Unit {0}
Each P (x ∷ xs) = P x × Each P xs

pub Each-append : {A : Type 0} (P : A → Type 0) (xs ys : List A) → Each P xs → Each P ys → Each P (xs ++ ys)
Each-append P [] ys h k = k
Each-append P (x ∷ xs) ys h k = (h.0, Each-append P xs ys h.1 k)

pub Each-left : {A : Type 0} (P : A → Type 0) (xs ys : List A) → Each P (xs ++ ys) → Each P xs
Each-left P [] ys h = tt
Each-left P (x ∷ xs) ys h = (h.0, Each-left P xs ys h.1)

pub Each-right : {A : Type 0} (P : A → Type 0) (xs ys : List A) → Each P (xs ++ ys) → Each P ys
Each-right P [] ys h = h
Each-right P (x ∷ xs) ys h = Each-right P xs ys h.1

pub Each-at : {A : Type 0} (P : A → Type 0) (xs : List A) (x : A) → Each P xs → In x xs → P x
Each-at P [] x h i = absurd i
Each-at P (y ∷ xs) x h (inl e) = subst P (sym e) h.0
Each-at P (y ∷ xs) x h (inr i) = Each-at P xs x h.1 i

pub Each-from : {A : Type 0} (P : A → Type 0) (xs : List A) → ((x : A) → In x xs → P x) → Each P xs
Each-from P [] f = tt
Each-from P (x ∷ xs) f = (f x (inl refl), Each-from P xs (λ y i. f y (inr i)))

pub Each-map : {A B : Type 0} (P : B → Type 0) (g : A → B) (xs : List A) → Each (λ x. P (g x)) xs → Each P (map g xs)
Each-map P g [] h = tt
Each-map P g (x ∷ xs) h = (h.0, Each-map P g xs h.1)

pub Each-flat_map : {A B : Type 0} (P : B → Type 0) (g : A → List B) (xs : List A) → Each (λ x. Each P (g x)) xs → Each P (flat_map g xs)
Each-flat_map P g [] h = tt
Each-flat_map P g (x ∷ xs) h = Each-append P (g x) (flat_map g xs) h.0 (Each-flat_map P g xs h.1)

-- the same where each was mapped before
pub Each-flat_mapped : {A B C : Type 0} (P : C → Type 0) (f : B → List C) (g : A → B) (xs : List A) → Each (λ x. Each P (f (g x))) xs → Each P (flat_map f (map g xs))
Each-flat_mapped P f g [] h = tt
Each-flat_mapped P f g (x ∷ xs) h = Each-append P (f (g x)) (flat_map f (map g xs)) h.0 (Each-flat_mapped P f g xs h.1)

pub Each-of_flat_mapped : {A B C : Type 0} (P : C → Type 0) (f : B → List C) (g : A → B) (xs : List A) → Each P (flat_map f (map g xs)) → Each (λ x. Each P (f (g x))) xs
Each-of_flat_mapped P f g [] h = tt
Each-of_flat_mapped P f g (x ∷ xs) h =
    (Each-left P (f (g x)) (flat_map f (map g xs)) h, Each-of_flat_mapped P f g xs (Each-right P (f (g x)) (flat_map f (map g xs)) h))

pub Each-take : {A : Type 0} (P : A → Type 0) (k : ℕ) (xs : List A) → Each P xs → Each P (take k xs)
Each-take P zero xs h = tt
Each-take P (suc k) [] h = tt
Each-take P (suc k) (x ∷ xs) h = (h.0, Each-take P k xs h.1)

pub Each-filter_map : {A B : Type 0} (P : B → Type 0) (g : A → Option B) (xs : List A) → ((a : A) (b : B) → In a xs → g a ≡ Some b → P b) → Each P (filter_map g xs)
Each-filter_map P g [] f = tt
Each-filter_map {A = A} {B = B} P g (x ∷ xs) f = at_head (g x) refl (Each-filter_map P g xs (λ a b i. f a b (inr i)))
  where
    at_head : (o : Option B) → g x ≡ o → Each P (filter_map g xs) → Each P (cons_option o (filter_map g xs))
    at_head None e h = h
    at_head (Some b) e h = (f x b (inl refl) e, h)
