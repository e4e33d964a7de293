-- Values one behind the other, and one kind as another.
use Rattle.std.proofs.Common.{◌≡◌, ℕ, List, ◌++◌, Option, Some, None, sym, ap, subst, ◌∙◌, append_assoc, option_map}
use Rattle.fw_wire.specs.Reading.{Finds, then_text, ThenFits}

-- no first value
pub no_first : {A B : Type 0} {t : A → List ℕ} (u : A → B → List ℕ) {F : A → Type 0} (G : A → B → Type 0) {old mid new : List ℕ}
    → Finds t F old None mid → Finds (then_text t u) (ThenFits F G) old None new
no_first {t = t} u G p = record {
  read = tt;
  each = λ x rest fits e.
      let none = p.each x.0 (u x.0 x.1 ++ rest) fits.0 (e ∙ append_assoc (t x.0) (u x.0 x.1) rest) in
      absurd (let no : ⊥ = cc in no);
}

-- a first value and no second
pub no_second : {A B : Type 0} {t : A → List ℕ} (u : A → B → List ℕ) {F : A → Type 0} (G : A → B → Type 0) {old mid new : List ℕ} {a : A}
    → Finds t F old (Some a) mid → Finds (u a) (G a) mid None new → Finds (then_text t u) (ThenFits F G) old None new
no_second {A = A} {t = t} u G {mid = mid} {a = a} p q = record {
  read = tt;
  each = λ x rest fits e.
      let first = p.each x.0 (u x.0 x.1 ++ rest) fits.0 (e ∙ append_assoc (t x.0) (u x.0 x.1) rest) in
      let one : x.0 ≡ a = cc in
      let spelled : mid ≡ u a x.1 ++ rest = first.1 ∙ ap (λ (z : A). u z x.1 ++ rest) one in
      let none = q.each x.1 rest (subst (λ (z : A). G z x.1) one fits.1) spelled in
      absurd (let no : ⊥ = cc in no);
}

-- both
pub both : {A B : Type 0} {t : A → List ℕ} (u : A → B → List ℕ) {F : A → Type 0} (G : A → B → Type 0) {old mid new : List ℕ} {a : A} {b : B}
    → Finds t F old (Some a) mid → Finds (u a) (G a) mid (Some b) new → Finds (then_text t u) (ThenFits F G) old (Some (a, b)) new
both {A = A} {B = B} {t = t} u G {mid = mid} {new = new} {a = a} {b = b} p q = record {
  read = (p.read.0 ∙ ap (λ (m : List ℕ). t a ++ m) q.read.0 ∙ sym (append_assoc (t a) (u a b) new), (p.read.1, q.read.1));
  each = λ x rest fits e.
      let first = p.each x.0 (u x.0 x.1 ++ rest) fits.0 (e ∙ append_assoc (t x.0) (u x.0 x.1) rest) in
      let one : x.0 ≡ a = cc in
      let spelled : mid ≡ u a x.1 ++ rest = first.1 ∙ ap (λ (z : A). u z x.1 ++ rest) one in
      let second = q.each x.1 rest (subst (λ (z : A). G z x.1) one fits.1) spelled in
      let two : b ≡ x.1 = cc in
      (ap (λ (y : A). Some (y, b)) (sym one) ∙ ap (λ (y : B). Some (x.0, y)) two, second.1);
}

-- ---- one kind as another

pub record Same {A B : Type 0} (t : A → List ℕ) (F : A → Type 0) (u : B → List ℕ) (G : B → Type 0) (to : A → B) : Type 0 where
  pub from : B → A
  pub texts : (x : A) → F x → u (to x) ≡ t x
  pub fits_to : (x : A) → F x → G (to x)
  pub fits_from : (y : B) → G y → F (from y)
  pub back : (y : B) → G y → to (from y) ≡ y

spelled : {A B : Type 0} (t : A → List ℕ) (u : B → List ℕ) (old : List ℕ) (x : A) (y z : B) (rest : List ℕ) → u z ≡ t x → z ≡ y → old ≡ u y ++ rest → old ≡ t x ++ rest
spelled t u old x y z rest texts back e = e ∙ ap (λ (m : List ℕ). m ++ rest) (ap u (sym back) ∙ texts)

pub via_none : {A B : Type 0} {t : A → List ℕ} {F : A → Type 0} {u : B → List ℕ} {G : B → Type 0} {to : A → B} {old new : List ℕ}
    → Same t F u G to → Finds t F old None new → Finds u G old None new
via_none {A = A} {t = t} {u = u} {to = to} {old = old} {new = new} s p = record {
  read = tt;
  each = λ y rest fits e.
      let x : A = s.from y in
      let none : (None ≡ Some x) × (new ≡ rest) = p.each x rest (s.fits_from y fits) (spelled t u old x y (to x) rest (s.texts x (s.fits_from y fits)) (s.back y fits) e) in
      absurd (let no : ⊥ = cc in no);
}

pub via : {A B : Type 0} {t : A → List ℕ} {F : A → Type 0} {u : B → List ℕ} {G : B → Type 0} {to : A → B} {old new : List ℕ} {a : A}
    → Same t F u G to → Finds t F old (Some a) new → Finds u G old (Some (to a)) new
via {A = A} {B = B} {t = t} {u = u} {to = to} {old = old} {new = new} {a = a} s p = record {
  read = (p.read.0 ∙ ap (λ (m : List ℕ). m ++ new) (sym (s.texts a p.read.1)), s.fits_to a p.read.1);
  each = λ y rest fits e.
      let x : A = s.from y in
      let found : (Some a ≡ Some x) × (new ≡ rest) = p.each x rest (s.fits_from y fits) (spelled t u old x y (to x) rest (s.texts x (s.fits_from y fits)) (s.back y fits) e) in
      let one : a ≡ x = cc in
      (ap (λ (x : A). Some (to x)) one ∙ ap (λ (x : B). Some x) (s.back y fits), found.1);
}

-- what was found is of a narrower kind too
pub kept : {A : Type 0} {t : A → List ℕ} {F G : A → Type 0} {old new : List ℕ} {a : A}
    → ((x : A) → G x → F x) → G a → Finds t F old (Some a) new → Finds t G old (Some a) new
kept from h p = record { read = (p.read.0, h); each = λ x rest fits e. p.each x rest (from x fits) e }

-- or it isn't
pub refused : {A : Type 0} {t : A → List ℕ} {F G : A → Type 0} {old mid new : List ℕ} {a : A}
    → ((x : A) → G x → F x) → ¬ G a → Finds t F old (Some a) mid → Finds t G old None new
refused {A = A} {G = G} {a = a} from h p = record {
  read = tt;
  each = λ x rest fits e.
      let found = p.each x rest (from x fits) e in
      let one : x ≡ a = cc in
      absurd (h (subst G one fits));
}

-- the same range in other words
pub as_fits : {A : Type 0} {t : A → List ℕ} {F G : A → Type 0} {old new : List ℕ} {found : Option A}
    → ((x : A) → F x → G x) → ((x : A) → G x → F x) → Finds t F old found new → Finds t G old found new
as_fits {found = None} to from p = record { read = tt; each = λ x rest fits e. p.each x rest (from x fits) e }
as_fits {found = Some a} to from p = record { read = (p.read.0, to a p.read.1); each = λ x rest fits e. p.each x rest (from x fits) e }

-- nothing was found, in the words of a question mark
pub none_is : {A B : Type 0} {t : A → List ℕ} {F : A → Type 0} {old new : List ℕ} {found : Option B} (h : B → A) → found ≡ None → Finds t F old None new → Finds t F old (option_map h found) new
none_is {found = None} h e p = p
none_is {found = Some b} h e p = absurd (let no : ⊥ = cc in no)

pub none_same : {A : Type 0} {t : A → List ℕ} {F : A → Type 0} {old new : List ℕ} {found : Option A} → found ≡ None → Finds t F old None new → Finds t F old found new
none_same {found = None} e p = p
none_same {found = Some b} e p = absurd (let no : ⊥ = cc in no)
