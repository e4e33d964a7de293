-- Fields one behind the other, where tests say what fits.
use Rattle.std.proofs.Common.{ℕ, Bool, ◌&&◌, List, ◌++◌, Option, Some, None, IsTrue}
use Rattle.std.proofs.lemmas.Bool.{and_parts, and_from}
use Rattle.fw_wire.specs.Reading.{Finds, FindsWhere, ThenFits}
use Rattle.fw_wire.proofs.Reading as reading
use Rattle.fw_wire.proofs.Reading.{Same, as_fits}

-- the spelling of the second field is its own
abbrev pub then_text : {A B : Type 0} → (A → List ℕ) → (B → List ℕ) → A × B → List ℕ
then_text t u x = t x.0 ++ u x.1

abbrev pub then_fits : {A B : Type 0} → (A → Bool) → (B → Bool) → A × B → Bool
then_fits f g x = f x.0 && g x.1

-- the range of the second follows from the first
abbrev pub after_fits : {A B : Type 0} → (A → Bool) → (A → B → Bool) → A × B → Bool
after_fits f g x = f x.0 && g x.0 x.1

-- one kind as another
abbrev pub SameWhere : {A B : Type 0} → (A → List ℕ) → (A → Bool) → (B → List ℕ) → (B → Bool) → (A → B) → Type 0
SameWhere t f u g to = Same t (λ x. IsTrue (f x)) u (λ y. IsTrue (g y)) to

tested : {A B : Type 0} {t : A × B → List ℕ} (f : A → Bool) (g : A → B → Bool) {old new : List ℕ} {found : Option (A × B)}
    → Finds t (ThenFits (λ x. IsTrue (f x)) (λ x y. IsTrue (g x y))) old found new → FindsWhere t (after_fits f g) old found new
tested f g p = as_fits (λ x h. and_from (f x.0) (g x.0 x.1) h.0 h.1) (λ x h. and_parts (f x.0) (g x.0 x.1) h) p

-- no first field
pub no_first : {A B : Type 0} {t : A → List ℕ} (u : B → List ℕ) {f : A → Bool} (g : B → Bool) {old mid new : List ℕ}
    → FindsWhere t f old None mid → FindsWhere (then_text t u) (then_fits f g) old None new
no_first u {f = f} g p = tested f (λ x. g) (reading.no_first (λ x. u) (λ x y. IsTrue (g y)) p)

-- a first field and no second
pub no_second_of : {A B : Type 0} {t : A → List ℕ} {u : B → List ℕ} {f : A → Bool} (g : A → B → Bool) {old mid new : List ℕ} {a : A}
    → FindsWhere t f old (Some a) mid → FindsWhere u (g a) mid None new → FindsWhere (then_text t u) (after_fits f g) old None new
no_second_of {u = u} {f = f} g p q = tested f g (reading.no_second (λ x. u) (λ x y. IsTrue (g x y)) p q)

-- both
pub both_of : {A B : Type 0} {t : A → List ℕ} {u : B → List ℕ} {f : A → Bool} (g : A → B → Bool) {old mid new : List ℕ} {a : A} {b : B}
    → FindsWhere t f old (Some a) mid → FindsWhere u (g a) mid (Some b) new → FindsWhere (then_text t u) (after_fits f g) old (Some (a, b)) new
both_of {u = u} {f = f} g p q = tested f g (reading.both (λ x. u) (λ x y. IsTrue (g x y)) p q)

-- a second field of a range of its own
pub no_second : {A B : Type 0} {t : A → List ℕ} {u : B → List ℕ} {f : A → Bool} {g : B → Bool} {old mid new : List ℕ} {a : A}
    → FindsWhere t f old (Some a) mid → FindsWhere u g mid None new → FindsWhere (then_text t u) (then_fits f g) old None new
no_second {g = g} p q = no_second_of (λ x. g) p q

pub both : {A B : Type 0} {t : A → List ℕ} {u : B → List ℕ} {f : A → Bool} {g : B → Bool} {old mid new : List ℕ} {a : A} {b : B}
    → FindsWhere t f old (Some a) mid → FindsWhere u g mid (Some b) new → FindsWhere (then_text t u) (then_fits f g) old (Some (a, b)) new
both {g = g} p q = both_of (λ x. g) p q
