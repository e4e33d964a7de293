-- What stands in lists that are made of lists, and what is found there.
use Rattle.std.proofs.Common.{◌≡◌, ◌⊎◌, inl, inr, Bool, true, false, cond, ◌||◌, List, [], ◌∷◌, ◌++◌, map, refl, sym, ◌∙◌, ap, subst, Some, None}
use Rattle.std.specs.Prelude.{flat_map, find}
use Rattle.std.specs.List.{list_any}
use Rattle.std.proofs.lemmas.Bool.{false≢true}
use Rattle.std.proofs.lemmas.Option.{none-some}
use Rattle.fw_trace.specs.Lists.{In}
use Rattle.fw_trace.specs.Run.{appended}
use Rattle.fw_trace.proofs.Words.{In-append, In-left}
use Rattle.fw_law_filter.proofs.Holding.{In-right}

pub In-flat : {A B : Type 0} (f : A → List B) (xs : List A) (y : B) → In y (flat_map f xs) → (x : A) × In x xs × In y (f x)
In-flat f [] y i = absurd i
In-flat f (x ∷ xs) y i = elim (In-append y (f x) (flat_map f xs) i) [
  | inl j ↦ (x, inl refl, j)
  | inr j ↦ let rest = In-flat f xs y j in (rest.0, inr rest.1, rest.2)
]

pub flat-In : {A B : Type 0} (f : A → List B) (xs : List A) (x : A) (y : B) → In x xs → In y (f x) → In y (flat_map f xs)
flat-In f [] x y i j = absurd i
flat-In f (z ∷ xs) x y (inl e) j = In-left y (f z) (flat_map f xs) (subst (λ a. In y (f a)) e j)
flat-In f (z ∷ xs) x y (inr i) j = In-right y (f z) (flat_map f xs) (flat-In f xs x y i j)

pub map-In : {A B : Type 0} (f : A → B) (xs : List A) (x : A) → In x xs → In (f x) (map f xs)
map-In f [] x i = absurd i
map-In f (z ∷ xs) x (inl e) = inl (ap f e)
map-In f (z ∷ xs) x (inr i) = inr (map-In f xs x i)

-- of more items more is made
pub flat-more : {A B : Type 0} (f : A → List B) (xs more : List A) (y : B) → In y (flat_map f xs) → In y (flat_map f (xs ++ more))
flat-more f xs more y i = let one = In-flat f xs y i in flat-In f (xs ++ more) one.0 y (In-left one.0 xs more one.1) one.2

-- ---- what passes a test

pub any-In : {A : Type 0} (test : A → Bool) (xs : List A) → list_any test xs ≡ true → (x : A) × In x xs × (test x ≡ true)
any-In test [] e = absurd (false≢true e)
any-In {A = A} test (x ∷ xs) e = by (test x) refl e (any-In test xs)
  where
    by : (b : Bool) → test x ≡ b → (b || list_any test xs) ≡ true → (list_any test xs ≡ true → (y : A) × In y xs × (test y ≡ true)) → (y : A) × In y (x ∷ xs) × (test y ≡ true)
    by true q h more = (x, inl refl, q)
    by false q h more = let rest = more h in (rest.0, inr rest.1, rest.2)

pub In-any : {A : Type 0} (test : A → Bool) (xs : List A) (x : A) → In x xs → test x ≡ true → list_any test xs ≡ true
In-any test [] x i e = absurd i
In-any test (z ∷ xs) x (inl s) e = subst (λ (b : Bool). (b || list_any test xs) ≡ true) (sym (ap test (sym s) ∙ e)) refl
In-any test (z ∷ xs) x (inr i) e = by (test z) (In-any test xs x i e)
  where
    by : (b : Bool) → list_any test xs ≡ true → (b || list_any test xs) ≡ true
    by true h = refl
    by false h = h

-- where none is found that passes, none does
pub none-found : {A : Type 0} (test : A → Bool) (xs : List A) → find test xs ≡ None → (x : A) → In x xs → test x ≡ false
none-found test [] e x i = absurd i
none-found {A = A} test (z ∷ xs) e x i = by (test z) refl e i (λ h. none-found test xs h x)
  where
    by : (b : Bool) → test z ≡ b → cond b (Some z) (find test xs) ≡ None → (x ≡ z) ⊎ In x xs → (find test xs ≡ None → In x xs → test x ≡ false) → test x ≡ false
    by true q h j more = absurd (none-some z (sym h))
    by false q h (inl s) more = ap test s ∙ q
    by false q h (inr j) more = more h j

-- what stands behind a list is what was appended to it
pub appended_behind : {A : Type 0} (old more : List A) → appended old (old ++ more) ≡ more
appended_behind [] more = refl
appended_behind (x ∷ old) more = appended_behind old more
