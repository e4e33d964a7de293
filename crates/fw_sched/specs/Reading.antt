-- Arrays of texts that are read item by item, where what an item may be depends on those before it.
use Rattle.std.specs.Prelude.{◌≡◌, ℕ, List, [], ◌∷◌, ◌++◌, take, slice_get, Some}

-- whether a text is an item, behind those before it
abbrev pub Rule : Type 0 → Type 1
Rule A = List A → List ℕ → A → Type 0

-- the texts are these items, each behind those before it
abbrev pub Reads : {A : Type 0} → Rule A → List A → List (List ℕ) → List A → Type 0
Reads Is before [] [] = Unit {0}
Reads Is before (text ∷ texts) (x ∷ xs) = Is before text x × Reads Is (before ++ x ∷ []) texts xs
Reads Is before _ _ = ⊥

-- the texts before this place are items, and behind them this one is none
pub record StopsAt {A : Type 0} (Is : Rule A) (texts : List (List ℕ)) (place : ℕ) : Type 0 where
  pub before : List A
  pub read : Reads Is [] (take place texts) before
  pub text : List ℕ
  pub here : slice_get texts place ≡ Some text
  pub none : (x : A) → ¬ Is before text x
