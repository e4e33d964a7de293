-- Numbers that pass a test, and how many stand below each.
use Rattle.std.proofs.Common.{◌≡◌, ℕ, zero, suc, ◌+◌, ◌-◌, ◌<◌, ◌≤◌, Bool, true, false, List, [], ◌∷◌, ◌++◌, length, get_or, refl, sym, ap, ◌∙◌, arith, inl, inr, subst, append-nil}
use Rattle.std.specs.Prelude.{filter}
use Rattle.std.proofs.lemmas.Bool.Decides.{eqb_tells}
use Rattle.fw_list.specs.Lists.{numbers_from}

pub filter_yes : {A : Type 0} (t : A → Bool) (x : A) (xs : List A) → t x ≡ true → filter t (x ∷ xs) ≡ x ∷ filter t xs
filter_yes t x xs e = rw e refl

pub filter_no : {A : Type 0} (t : A → Bool) (x : A) (xs : List A) → t x ≡ false → filter t (x ∷ xs) ≡ filter t xs
filter_no t x xs e = rw e refl

-- the numbers from a on that pass, among so many
abbrev pub passing : (ℕ → Bool) → ℕ → ℕ → List ℕ
passing t a n = filter t (numbers_from a n)

-- how many of them stand below a number
abbrev pub below : (ℕ → Bool) → ℕ → ℕ → ℕ
below t a x = length (passing t a (x - a))

-- a number that passes, with so many below it
pub record IsRank (t : ℕ → Bool) (a n j x : ℕ) : Type 0 where
  pub from : a ≤ x
  pub within : x < a + n
  pub passes : t x ≡ true
  pub rank : below t a x ≡ j

below_yes : (t : ℕ → Bool) (a x : ℕ) → t a ≡ true → a + 1 ≤ x → below t a x ≡ suc (below t (a + 1) x)
below_yes t a x holds from =
    let e : x - a ≡ suc (x - (a + 1)) = omega arith in
    ap (λ m. length (passing t a m)) e ∙ ap length (filter_yes t a (numbers_from (a + 1) (x - (a + 1))) holds)

below_no : (t : ℕ → Bool) (a x : ℕ) → t a ≡ false → a + 1 ≤ x → below t a x ≡ below t (a + 1) x
below_no t a x fails from =
    let e : x - a ≡ suc (x - (a + 1)) = omega arith in
    ap (λ m. length (passing t a m)) e ∙ ap length (filter_no t a (numbers_from (a + 1) (x - (a + 1))) fails)

below_itself : (t : ℕ → Bool) (a : ℕ) → below t a a ≡ 0
below_itself t a = let e : a - a ≡ 0 = omega arith in ap (λ m. length (passing t a m)) e

-- the number at a place has so many below it
pub rank_at : (t : ℕ → Bool) (a n j : ℕ) → j < length (passing t a n) → IsRank t a n j (get_or (passing t a n) j 0)
rank_at t a zero j within = absurd (omega arith)
rank_at t a (suc n) j within = by (λ i inside. rank_at t (a + 1) n i inside) (t a) refl j within
  where
    more : (j x : ℕ) → IsRank t (a + 1) n j x → t a ≡ true → IsRank t a (suc n) (suc j) x
    more j x r holds = record {
      from = (let f = r.from in omega arith);
      within = (let w = r.within in omega arith);
      passes = r.passes;
      rank = below_yes t a x holds r.from ∙ ap suc r.rank;
    }

    same : (j x : ℕ) → IsRank t (a + 1) n j x → t a ≡ false → IsRank t a (suc n) j x
    same j x r fails = record {
      from = (let f = r.from in omega arith);
      within = (let w = r.within in omega arith);
      passes = r.passes;
      rank = below_no t a x fails r.from ∙ r.rank;
    }

    Rest : Type 0
    Rest = (i : ℕ) → i < length (passing t (a + 1) n) → IsRank t (a + 1) n i (get_or (passing t (a + 1) n) i 0)

    by : Rest → (b : Bool) → t a ≡ b → (j : ℕ) → j < length (passing t a (suc n)) → IsRank t a (suc n) j (get_or (passing t a (suc n)) j 0)
    by rest true holds zero within =
        subst (λ (l : List ℕ). IsRank t a (suc n) zero (get_or l zero 0)) (sym (filter_yes t a (numbers_from (a + 1) n) holds))
        (record { from = (omega arith); within = (omega arith); passes = holds; rank = below_itself t a })
    by rest true holds (suc j) within =
        let e = filter_yes t a (numbers_from (a + 1) n) holds in
        let inside : j < length (passing t (a + 1) n) = (let l : length (passing t a (suc n)) ≡ suc (length (passing t (a + 1) n)) = ap length e in omega arith) in
        subst (λ (l : List ℕ). IsRank t a (suc n) (suc j) (get_or l (suc j) 0)) (sym e) (more j (get_or (passing t (a + 1) n) j 0) (rest j inside) holds)
    by rest false fails j within =
        let e = filter_no t a (numbers_from (a + 1) n) fails in
        let inside : j < length (passing t (a + 1) n) = (let l : length (passing t a (suc n)) ≡ length (passing t (a + 1) n) = ap length e in omega arith) in
        subst (λ (l : List ℕ). IsRank t a (suc n) j (get_or l j 0)) (sym e) (same j (get_or (passing t (a + 1) n) j 0) (rest j inside) fails)

-- a number that passes stands behind those below it
pub stands_at : (t : ℕ → Bool) (a n x : ℕ) → a ≤ x → x < a + n → t x ≡ true → (below t a x < length (passing t a n)) × (get_or (passing t a n) (below t a x) 0 ≡ x)
stands_at t a zero x from within passes = absurd (omega arith)
stands_at t a (suc n) x from within passes =
    elim (eqb_tells a x) [
      | inl same ↦ first (sym same.1)
      | inr other ↦
          let past : a + 1 ≤ x = (let o : (a ≡ x → ⊥) = other.1 in omega arith) in
          by (t a) refl past (stands_at t (a + 1) n x past (omega arith) passes)
    ]
  where
    At : ℕ → Type 0
    At j = (j < length (passing t a (suc n))) × (get_or (passing t a (suc n)) j 0 ≡ x)

    first : x ≡ a → At (below t a x)
    first same =
        let holds : t a ≡ true = ap t (sym same) ∙ passes in
        let e = filter_yes t a (numbers_from (a + 1) n) holds in
        let none : below t a x ≡ 0 = ap (below t a) same ∙ below_itself t a in
        let many : length (passing t a (suc n)) ≡ suc (length (passing t (a + 1) n)) = ap length e in
        subst At (sym none) ((omega arith), ap (λ (l : List ℕ). get_or l 0 0) e ∙ sym same)

    by : (b : Bool) → t a ≡ b → a + 1 ≤ x → (below t (a + 1) x < length (passing t (a + 1) n)) × (get_or (passing t (a + 1) n) (below t (a + 1) x) 0 ≡ x) → At (below t a x)
    by true holds past there =
        let e = filter_yes t a (numbers_from (a + 1) n) holds in
        let many : length (passing t a (suc n)) ≡ suc (length (passing t (a + 1) n)) = ap length e in
        let inside = there.0 in
        subst At (sym (below_yes t a x holds past)) ((omega arith), ap (λ (l : List ℕ). get_or l (suc (below t (a + 1) x)) 0) e ∙ there.1)
    by false fails past there =
        let e = filter_no t a (numbers_from (a + 1) n) fails in
        let many : length (passing t a (suc n)) ≡ length (passing t (a + 1) n) = ap length e in
        let inside = there.0 in
        subst At (sym (below_no t a x fails past)) ((omega arith), ap (λ (l : List ℕ). get_or l (below t (a + 1) x) 0) e ∙ there.1)

-- from the first number on
pub below_zero : (t : ℕ → Bool) (x : ℕ) → below t 0 x ≡ length (passing t 0 x)
below_zero t x = let e : x - 0 ≡ x = omega arith in ap (λ m. length (passing t 0 m)) e

-- ---- one number more

numbers_last : (a n : ℕ) → numbers_from a (suc n) ≡ numbers_from a n ++ (a + n) ∷ []
numbers_last a zero = let e : a ≡ a + 0 = omega arith in ap (λ (k : ℕ). k ∷ []) e
numbers_last a (suc n) =
    let e : a + 1 + n ≡ a + suc n = omega arith in
    ap (λ (l : List ℕ). a ∷ l) (numbers_last (a + 1) n ∙ ap (λ (k : ℕ). numbers_from (a + 1) n ++ k ∷ []) e)

filter_end : {A : Type 0} (t : A → Bool) (x : A) (xs : List A) → filter t (xs ++ x ∷ []) ≡ filter t xs ++ filter t (x ∷ [])
filter_end t x [] = refl
filter_end {A} t x (y ∷ xs) = by (filter_end t x xs) (t y) refl
  where
    by : filter t (xs ++ x ∷ []) ≡ filter t xs ++ filter t (x ∷ []) → (b : Bool) → t y ≡ b → filter t (y ∷ xs ++ x ∷ []) ≡ filter t (y ∷ xs) ++ filter t (x ∷ [])
    by rest true e = filter_yes t y (xs ++ x ∷ []) e ∙ ap (λ (l : List A). y ∷ l) rest ∙ sym (ap (λ (l : List A). l ++ filter t (x ∷ [])) (filter_yes t y xs e))
    by rest false e = filter_no t y (xs ++ x ∷ []) e ∙ rest ∙ sym (ap (λ (l : List A). l ++ filter t (x ∷ [])) (filter_no t y xs e))

pub passing_more : (t : ℕ → Bool) (n : ℕ) → t n ≡ true → passing t 0 (n + 1) ≡ passing t 0 n ++ n ∷ []
passing_more t n holds =
    let e : n + 1 ≡ suc n = omega arith in
    let z : 0 + n ≡ n = omega arith in
    ap (passing t 0) e ∙ ap (filter t) (numbers_last 0 n ∙ ap (λ (k : ℕ). numbers_from 0 n ++ k ∷ []) z) ∙ filter_end t n (numbers_from 0 n) ∙ ap (λ (l : List ℕ). passing t 0 n ++ l) (filter_yes t n [] holds)

pub passing_same : (t : ℕ → Bool) (n : ℕ) → t n ≡ false → passing t 0 (n + 1) ≡ passing t 0 n
passing_same t n fails =
    let e : n + 1 ≡ suc n = omega arith in
    let z : 0 + n ≡ n = omega arith in
    ap (passing t 0) e ∙ ap (filter t) (numbers_last 0 n ∙ ap (λ (k : ℕ). numbers_from 0 n ++ k ∷ []) z) ∙ filter_end t n (numbers_from 0 n) ∙ ap (λ (l : List ℕ). passing t 0 n ++ l) (filter_no t n [] fails) ∙ append-nil (passing t 0 n)
