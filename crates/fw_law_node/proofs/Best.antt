-- The best proof of a list is one of it, and none of it has a greater view.
use Rattle.std.proofs.Common.{ℕ, ◌≤◌, ◌≡◌, inl, inr, Bool, true, nat_eq, nat_lt, List, [], ◌∷◌, arith, refl, sym, ◌∙◌, ap, subst, Option, Some, None, filter, filter_map}
use Rattle.std.specs.List.{cons_option}
use Rattle.std.proofs.lemmas.Bool.{cases_Bool, eqb-true, eq-eqb, ltb-true, ltb-false, cond-true, cond-false}
use Rattle.std.proofs.lemmas.Option.{none-some, same_Some}
use Rattle.fw_trace.specs.Lists.{In}
use Rattle.fw_trace.proofs.Words.{In-filter}
use Rattle.fw_frame.specs.View.{Proof}
use Rattle.fw_rules.specs.Agree.{best, better, proofs_of}

pub record IsGreatest (qs : List Proof) (b : Proof) : Type 0 where
  pub among : In b qs
  pub most : (q : Proof) → In q qs → q.view ≤ b.view

better-some : (p : Proof) (o : Option Proof) → better p o ≡ None → ⊥
better-some p None e = none-some p (sym e)
better-some p (Some b) e = elim (cases_Bool (nat_lt p.view b.view)) [
  | inl s ↦ none-some b (sym e ∙ cond-true _ _ _ s)
  | inr s ↦ none-some p (sym e ∙ cond-false _ _ _ s)
]

best-none : (qs : List Proof) (q : Proof) → In q qs → best qs ≡ None → ⊥
best-none [] q h e = h
best-none (p ∷ ps) q h e = better-some p (best ps) e

pub best-some : (qs : List Proof) (b : Proof) → best qs ≡ Some b → IsGreatest qs b
best-some [] b e = absurd (none-some b e)
best-some (p ∷ ps) b e = by_rest (best ps) refl (best-some ps) e
  where
    by_rest : (o : Option Proof) → best ps ≡ o → ((r : Proof) → best ps ≡ Some r → IsGreatest ps r) → better p o ≡ Some b → IsGreatest (p ∷ ps) b
    by_rest None d rest k =
        let same = same_Some p b k in
        record {
          among = inl (sym same);
          most = λ r i. elim i [ inl s ↦ omega (arith, ap (λ (x : Proof). x.view) s, ap (λ (x : Proof). x.view) same) | inr j ↦ absurd (best-none ps r j d) ];
        }
    by_rest (Some c) d rest k = let g = rest c d in elim (cases_Bool (nat_lt p.view c.view)) [
      | inl s ↦
          let same = same_Some c b (sym (cond-true _ _ _ s) ∙ k) in
          record {
            among = inr (subst (λ (x : Proof). In x ps) same g.among);
            most = λ r i. elim i [ inl t ↦ omega (arith, ltb-true _ _ s, ap (λ (x : Proof). x.view) t, ap (λ (x : Proof). x.view) same) | inr j ↦ omega (arith, g.most r j, ap (λ (x : Proof). x.view) same) ];
          }
      | inr s ↦
          let same = same_Some p b (sym (cond-false _ _ _ s) ∙ k) in
          record {
            among = inl (sym same);
            most = λ r i. elim i [ inl t ↦ omega (arith, ap (λ (x : Proof). x.view) t, ap (λ (x : Proof). x.view) same) | inr j ↦ omega (arith, ltb-false _ _ s, g.most r j, ap (λ (x : Proof). x.view) same) ];
          }
    ]

pub best-is : (qs : List Proof) (q : Proof) → In q qs → (b : Proof) × (best qs ≡ Some b) × IsGreatest qs b
best-is qs q h = by (best qs) refl
  where
    by : (o : Option Proof) → best qs ≡ o → (b : Proof) × (best qs ≡ Some b) × IsGreatest qs b
    by None e = absurd (best-none qs q h e)
    by (Some b) e = (b, e, best-some qs b e)

pub filter-In : {A : Type 0} (p : A → Bool) (xs : List A) (x : A) → In x xs → p x ≡ true → In x (filter p xs)
filter-In p [] x h e = h
filter-In {A = A} p (y ∷ xs) x (inl s) e = subst (In x) (sym (cond-true (p y) (y ∷ filter p xs) (filter p xs) (subst (λ (z : A). p z ≡ true) s e))) (inl s)
filter-In p (y ∷ xs) x (inr h) e = elim (cases_Bool (p y)) [
  | inl k ↦ subst (In x) (sym (cond-true (p y) (y ∷ filter p xs) (filter p xs) k)) (inr (filter-In p xs x h e))
  | inr k ↦ subst (In x) (sym (cond-false (p y) (y ∷ filter p xs) (filter p xs) k)) (filter-In p xs x h e)
]

pub filter_map-In : {A B : Type 0} (g : A → Option B) (xs : List A) (x : A) (y : B) → In x xs → g x ≡ Some y → In y (filter_map g xs)
filter_map-In g [] x y h e = h
filter_map-In {A = A} {B = B} g (z ∷ xs) x y (inl s) e = subst (λ (o : Option B). In y (cons_option o (filter_map g xs))) (sym (subst (λ (w : A). g w ≡ Some y) s e)) (inl refl)
filter_map-In {B = B} g (z ∷ xs) x y (inr h) e = at_head (g z) (filter_map-In g xs x y h e)
  where
    at_head : (o : Option B) → In y (filter_map g xs) → In y (cons_option o (filter_map g xs))
    at_head None i = i
    at_head (Some w) i = inr i

pub In-filter_map : {A B : Type 0} (g : A → Option B) (xs : List A) (y : B) → In y (filter_map g xs) → (x : A) × In x xs × (g x ≡ Some y)
In-filter_map g [] y h = absurd h
In-filter_map {A = A} {B = B} g (z ∷ xs) y h = at_head (g z) refl h (In-filter_map g xs y)
  where
    at_head : (o : Option B) → g z ≡ o → In y (cons_option o (filter_map g xs)) → (In y (filter_map g xs) → (x : A) × In x xs × (g x ≡ Some y)) → (x : A) × In x (z ∷ xs) × (g x ≡ Some y)
    at_head None e i more = let r = more i in (r.0, inr r.1, r.2)
    at_head (Some w) e (inl s) more = (z, inl refl, e ∙ ap (λ (v : B). Some v) (sym s))
    at_head (Some w) e (inr i) more = let r = more i in (r.0, inr r.1, r.2)

-- ---- of the proofs of a number

abbrev pub is_of : ℕ → Proof → Bool
is_of n q = nat_eq q.number n

pub best_of-is : (n : ℕ) (qs : List Proof) (b : Proof) → best (proofs_of n qs) ≡ Some b → In b qs × (b.number ≡ n)
best_of-is n qs b e =
    let i = In-filter (is_of n) b qs (best-some (proofs_of n qs) b e).among in
    (i.0, eqb-true b.number n i.1)

-- where there is a proof of a number, the best is of that view or a greater one
pub best_of-since : (n : ℕ) (qs : List Proof) (q : Proof) → In q qs → q.number ≡ n → (b : Proof) × (best (proofs_of n qs) ≡ Some b) × (q.view ≤ b.view)
best_of-since n qs q i same =
    let j = filter-In (is_of n) qs q i (eq-eqb q.number n same) in
    let b = best-is (proofs_of n qs) q j in
    (b.0, b.1, b.2.most q j)
