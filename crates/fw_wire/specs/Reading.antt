-- What reading finds at the front of bytes.
use Rattle.std.specs.Prelude.{◌≡◌, ℕ, Bool, List, ◌++◌, Option, Some, IfSome, IsTrue}

-- the one value of a kind that the bytes begin with, and what is left behind it; nothing, exactly where they begin with none
pub record Finds {A : Type 0} (text : A → List ℕ) (Fits : A → Type 0) (bytes : List ℕ) (found : Option A) (left : List ℕ) : Type 0 where
  pub read : IfSome found (λ x. (bytes ≡ text x ++ left) × Fits x)
  pub each : (x : A) (rest : List ℕ) → Fits x → bytes ≡ text x ++ rest → (found ≡ Some x) × (left ≡ rest)

-- the same, where a test says which values are of the kind
abbrev pub FindsWhere : {A : Type 0} → (A → List ℕ) → (A → Bool) → List ℕ → Option A → List ℕ → Type 0
FindsWhere text fits = Finds text (λ x. IsTrue (fits x))

-- one value and another behind it, whose spelling and range follow from the first
abbrev pub then_text : {A B : Type 0} → (A → List ℕ) → (A → B → List ℕ) → A × B → List ℕ
then_text t u x = t x.0 ++ u x.0 x.1

abbrev pub ThenFits : {A B : Type 0} → (A → Type 0) → (A → B → Type 0) → A × B → Type 0
ThenFits F G x = F x.0 × G x.0 x.1
