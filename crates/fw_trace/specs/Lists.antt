-- Words on lists that the definitions share.
use Rattle.std.specs.Prelude.{ℕ, cond, nat_eq, max, List, [], ◌∷◌, Option, Some, None, ◌≡◌, ◌⊎◌}

-- x is an element
abbrev pub In : {A : Type 0} → A → List A → Type 0
In x [] = ⊥
In x (y ∷ ys) = (x ≡ y) ⊎ In x ys

-- the values up to the first place that has none
abbrev pub front_of : {A : Type 0} → List (Option A) → List A
front_of [] = []
front_of (None ∷ xs) = []
front_of (Some x ∷ xs) = x ∷ front_of xs

-- the first value that is read at a number
abbrev pub first_at : {A E : Type 0} → (A → Option (ℕ × E)) → List A → ℕ → Option E
first_at reads [] n = None
first_at reads (x ∷ xs) n =
    elim (reads x) [ None ↦ first_at reads xs n | Some found ↦ cond (nat_eq found.0 n) (Some found.1) (first_at reads xs n) ]

-- the greatest number that is read, or 0
abbrev pub greatest_of : {A E : Type 0} → (A → Option (ℕ × E)) → List A → ℕ
greatest_of reads [] = 0
greatest_of reads (x ∷ xs) = elim (reads x) [ None ↦ greatest_of reads xs | Some found ↦ max found.0 (greatest_of reads xs) ]
