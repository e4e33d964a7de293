-- A list that is spelled item by item, and what is left of it.
use Rattle.std.proofs.Common.{◌≡◌, ◌≢◌, ◌+◌, Bool, true, List, [], ◌∷◌, ◌++◌, length, map, sym, ◌∙◌, arith}
use Rattle.std.proofs.lemmas.Bool.{and_parts}
use Rattle.std.specs.List.{list_all}

-- after the first items of a list that fits, what is left is spelled by the others
pub left_of : {A W : Type 0} (spell : A → W) (fits : A → Bool) (xs ys : List A) (left : List W) → map spell xs ++ left ≡ map spell ys → list_all fits ys ≡ true
    → (more : List A) × (left ≡ map spell more) × (list_all fits more ≡ true) × (length ys ≡ length xs + length more)
left_of spell fits [] ys left e all = (ys, e, all, omega arith)
left_of spell fits (x ∷ xs) [] left e all = cc
left_of spell fits (x ∷ xs) (y ∷ ys) left e all =
    let later : map spell xs ++ left ≡ map spell ys = cc in
    let rest = left_of spell fits xs ys left later (and_parts (fits y) (list_all fits ys) all).1 in
    (rest.0, rest.1, rest.2, omega (arith, rest.3))

-- a word that no item has
pub no_list : {A W : Type 0} (spell : A → W) (fits : A → Bool) (whole : List W) (xs : List A) (w : W) (left : List W) → whole ≡ map spell xs ++ w ∷ left
    → ((a : A) → fits a ≡ true → w ≢ spell a) → (ys : List A) → list_all fits ys ≡ true → whole ≢ map spell ys
no_list {A = A} spell fits whole xs w left is none ys all e =
    let rest = left_of spell fits xs ys (w ∷ left) (sym is ∙ e) all in
    starts rest.0 rest.1 rest.2
  where
    starts : (more : List A) → w ∷ left ≡ map spell more → list_all fits more ≡ true → ⊥
    starts [] e all = cc
    starts (a ∷ more) e all = let same : w ≡ spell a = cc in none a (and_parts (fits a) (list_all fits more) all).0 same
