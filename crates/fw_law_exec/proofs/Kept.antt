-- What one kept frame more changes, and how many numbers can be executed of what is kept.
use Rattle.std.proofs.Common.{ℕ, suc, ◌+◌, ◌≡◌, ◌≤◌, ◌<◌, ◌⊎◌, inl, inr, Bool, true, false, cond, nat_eq, nat_lt, List, [], ◌∷◌, refl, sym, ◌∙◌, ap, subst, Option, Some, None, is_some, arith}
use Rattle.std.specs.Prelude.{option_map}
use Rattle.std.specs.Option.{option_or}
use Rattle.std.proofs.lemmas.Bool.{eqb-true, eq-eqb, ltb-true, ltb-false}
use Rattle.std.proofs.lemmas.Option.{none-some}
use Rattle.fw_trace.specs.Lists.{In, first_at}
use Rattle.fw_trace.specs.Executor.{entry_of, keep}
use Rattle.fw_law_exec.specs.Executed.{IsKept, OnePerNumber}

-- the first kept at a number, by what f reads of it
abbrev pub value_of : {E M B : Type 0} → (ℕ × E × M → B) → List (ℕ × E × M) → ℕ → Option B
value_of f kept n = first_at (λ k. Some (k.0, f k)) kept n

pub value_head : {E M B : Type 0} (f : ℕ × E × M → B) (k : ℕ × E × M) (kept : List (ℕ × E × M)) (n : ℕ) (b : Bool) → nat_eq k.0 n ≡ b → value_of f (k ∷ kept) n ≡ cond b (Some (f k)) (value_of f kept n)
value_head f k kept n b e = ap (λ (c : Bool). cond c (Some (f k)) (value_of f kept n)) e

-- where one reading finds nothing, no other does
none_same : {E M B C : Type 0} (f : ℕ × E × M → B) (g : ℕ × E × M → C) (kept : List (ℕ × E × M)) (n : ℕ) → value_of f kept n ≡ None → value_of g kept n ≡ None
none_same f g [] n h = refl
none_same {C = C} f g (k ∷ kept) n h = by (nat_eq k.0 n) refl (none_same f g kept n)
  where
    by : (b : Bool) → nat_eq k.0 n ≡ b → (value_of f kept n ≡ None → value_of g kept n ≡ None) → value_of g (k ∷ kept) n ≡ None
    by true q more = absurd (none-some (f k) (sym h ∙ value_head f k kept n true q))
    by false q more = value_head g k kept n false q ∙ more (sym (value_head f k kept n false q) ∙ h)

pub or_none : {B : Type 0} (o : Option B) → option_or o None ≡ o
or_none None = refl
or_none (Some x) = refl

-- what was kept first stays
pub keep_first : {E M B : Type 0} (f : ℕ × E × M → B) (kept : List (ℕ × E × M)) (new : ℕ × E × M) (n : ℕ) → value_of f (keep kept new) n ≡ option_or (value_of f kept n) (cond (nat_eq new.0 n) (Some (f new)) None)
keep_first {E = E} {B = B} f kept new n = by (entry_of kept new.0) refl (nat_eq new.0 n) refl (value_of f kept n) refl
  where
    by : (o : Option E) → entry_of kept new.0 ≡ o → (b : Bool) → nat_eq new.0 n ≡ b → (v : Option B) → value_of f kept n ≡ v → value_of f (cond (is_some o) kept (new ∷ kept)) n ≡ option_or v (cond b (Some (f new)) None)
    by None q false e v h = value_head f new kept n false e ∙ h ∙ sym (or_none v)
    by None q true e None h = value_head f new kept n true e
    by None q true e (Some v) h = absurd (none-some v (sym (none_same (λ k. k.1) f kept n (subst (λ (i : ℕ). entry_of kept i ≡ None) (eqb-true new.0 n e) q)) ∙ h))
    by (Some x) q false e v h = h ∙ sym (or_none v)
    by (Some x) q true e (Some v) h = h
    by (Some x) q true e None h = absurd (none-some x (sym (none_same f (λ k. k.1) kept n h) ∙ subst (λ (i : ℕ). entry_of kept i ≡ Some x) (eqb-true new.0 n e) q))

pub keep_stays : {E M B : Type 0} (f : ℕ × E × M → B) (kept : List (ℕ × E × M)) (new : ℕ × E × M) (n : ℕ) (v : B) → value_of f kept n ≡ Some v → value_of f (keep kept new) n ≡ Some v
keep_stays f kept new n v h = keep_first f kept new n ∙ ap (λ (o : Option _). option_or o (cond (nat_eq new.0 n) (Some (f new)) None)) h

pub keep_at : {E M : Type 0} (kept : List (ℕ × E × M)) (new : ℕ × E × M) → IsKept (keep kept new) new.0
keep_at {E = E} kept new = by (entry_of kept new.0) (keep_first (λ k. k.1) kept new new.0 ∙ ap (λ (b : Bool). option_or (entry_of kept new.0) (cond b (Some new.1) None)) (eq-eqb new.0 new.0 refl))
  where
    by : (o : Option E) → entry_of (keep kept new) new.0 ≡ option_or o (Some new.1) → IsKept (keep kept new) new.0
    by None q = (new.1, q)
    by (Some e) q = (e, q)

-- a part of what is read
pub value_part : {E M B C : Type 0} (f : ℕ × E × M → B) (g : B → C) (kept : List (ℕ × E × M)) (n : ℕ) → value_of (λ k. g (f k)) kept n ≡ option_map g (value_of f kept n)
value_part f g [] n = refl
value_part {B = B} {C = C} f g (k ∷ kept) n = by (nat_eq k.0 n) (value_part f g kept n)
  where
    by : (b : Bool) → value_of (λ k. g (f k)) kept n ≡ option_map g (value_of f kept n) → ◌≡◌ {A = Option C} (cond b (Some (g (f k))) (value_of (λ k. g (f k)) kept n)) (option_map g (cond b (Some (f k)) (value_of f kept n)))
    by true more = refl
    by false more = more

pub keep_in : {E M : Type 0} (kept : List (ℕ × E × M)) (new k : ℕ × E × M) → In k (keep kept new) → In k kept ⊎ (k ≡ new)
keep_in kept new k = by (is_some (entry_of kept new.0))
  where
    by : (b : Bool) → In k (cond b kept (new ∷ kept)) → In k kept ⊎ (k ≡ new)
    by true i = inl i
    by false (inl e) = inr e
    by false (inr i) = inl i

pub keep_once : {E M : Type 0} (kept : List (ℕ × E × M)) (new : ℕ × E × M) → OnePerNumber kept → OnePerNumber (keep kept new)
keep_once {E = E} kept new all = by (entry_of kept new.0) refl
  where
    by : (o : Option E) → entry_of kept new.0 ≡ o → OnePerNumber (cond (is_some o) kept (new ∷ kept))
    by None q = (q, all)
    by (Some e) q = all

-- ---- how many are kept, and how many of them above a number

abbrev pub count_of : {X : Type 0} → List X → ℕ
count_of [] = 0
count_of (y ∷ ys) = suc (count_of ys)

abbrev pub above : {E M : Type 0} → ℕ → List (ℕ × E × M) → ℕ
above n [] = 0
above n (k ∷ kept) = cond (nat_lt n k.0) (suc (above n kept)) (above n kept)

abbrev one_if : Bool → ℕ → ℕ
one_if b n = cond b (suc n) n

one_if-all : (b : Bool) (n m : ℕ) → n ≤ m → one_if b n ≤ suc m
one_if-all true n m h = omega arith
one_if-all false n m h = omega arith

pub above_all : {E M : Type 0} (n : ℕ) (kept : List (ℕ × E × M)) → above n kept ≤ count_of kept
above_all n [] = omega arith
above_all n (k ∷ kept) = one_if-all (nat_lt n k.0) (above n kept) (count_of kept) (above_all n kept)

above_next : {E M : Type 0} (n : ℕ) (kept : List (ℕ × E × M)) → above (n + 1) kept ≤ above n kept
above_next n [] = omega arith
above_next n (k ∷ kept) = by (nat_lt (n + 1) k.0) (nat_lt n k.0) refl refl (above_next n kept)
  where
    by : (a b : Bool) → nat_lt (n + 1) k.0 ≡ a → nat_lt n k.0 ≡ b → above (n + 1) kept ≤ above n kept → one_if a (above (n + 1) kept) ≤ one_if b (above n kept)
    by true true p q h = omega arith
    by true false p q h = absurd (omega (arith, ltb-true (n + 1) k.0 p, ltb-false n k.0 q))
    by false true p q h = omega arith
    by false false p q h = h

-- executing the next number uses up one that is kept
pub above_uses : {E M : Type 0} (n : ℕ) (kept : List (ℕ × E × M)) (e : E) → entry_of kept (n + 1) ≡ Some e → above (n + 1) kept < above n kept
above_uses n [] e h = absurd (none-some e h)
above_uses {E = E} n (k ∷ kept) e h = by (nat_eq k.0 (n + 1)) (nat_lt (n + 1) k.0) (nat_lt n k.0) refl refl refl (above_uses n kept e)
  where
    by : (c a b : Bool) → nat_eq k.0 (n + 1) ≡ c → nat_lt (n + 1) k.0 ≡ a → nat_lt n k.0 ≡ b → (entry_of kept (n + 1) ≡ Some e → above (n + 1) kept < above n kept) → one_if a (above (n + 1) kept) < one_if b (above n kept)
    by true true b r p q more = absurd (omega (arith, ltb-true (n + 1) k.0 p, eqb-true k.0 (n + 1) r))
    by true false false r p q more = absurd (omega (arith, ltb-false n k.0 q, eqb-true k.0 (n + 1) r))
    by true false true r p q more = let l : above (n + 1) kept ≤ above n kept = above_next n kept in omega arith
    by false a b r p q more = rest a b p q (more (sym (value_head (λ x. x.1) k kept (n + 1) false r) ∙ h))
      where
        rest : (a b : Bool) → nat_lt (n + 1) k.0 ≡ a → nat_lt n k.0 ≡ b → above (n + 1) kept < above n kept → one_if a (above (n + 1) kept) < one_if b (above n kept)
        rest true true p q l = omega arith
        rest true false p q l = absurd (omega (arith, ltb-true (n + 1) k.0 p, ltb-false n k.0 q))
        rest false true p q l = omega arith
        rest false false p q l = l
