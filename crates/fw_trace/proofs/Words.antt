-- Membership by recursion, and when two seats are one.
use Rattle.std.proofs.Common.{ℕ, zero, suc, ◌≡◌, ◌<◌, ◌⊎◌, inl, inr, Bool, true, false, cond, List, [], ◌∷◌, ◌++◌, length, refl, sym, ◌∙◌, ap, subst, Some, get_or, arith, reverse}
use Rattle.std.specs.Prelude.{slice_get, filter, Contains}
use Rattle.std.proofs.lemmas.Grind.{reverse_onto}
use Rattle.std.proofs.lemmas.Bool.{eqb-true, and_parts, eq-eqb, and_from}
use Rattle.std.proofs.lemmas.Option.{none-some, same_Some}
use Rattle.fw_base.specs.declared.seat.Seat.{Seat}
use Rattle.fw_base.specs.declared.seat.Seat.TheVariants.{Agree, Exec, Filter, Client}
use Rattle.fw_base.specs.Seats.{seat_eq}
use Rattle.fw_trace.specs.Lists.{In}

pub In-append : {A : Type 0} (x : A) (xs ys : List A) → In x (xs ++ ys) → In x xs ⊎ In x ys
In-append x [] ys h = inr h
In-append x (y ∷ xs) ys (inl e) = inl (inl e)
In-append x (y ∷ xs) ys (inr h) = elim (In-append x xs ys h) [ inl k ↦ inl (inr k) | inr k ↦ inr k ]

pub In-left : {A : Type 0} (x : A) (xs ys : List A) → In x xs → In x (xs ++ ys)
In-left x [] ys h = absurd h
In-left x (y ∷ xs) ys (inl e) = inl e
In-left x (y ∷ xs) ys (inr h) = inr (In-left x xs ys h)

pub slice_get-In : {A : Type 0} (xs : List A) (k : ℕ) (x : A) → slice_get xs k ≡ Some x → In x xs
slice_get-In [] k x e = absurd (none-some x e)
slice_get-In (y ∷ xs) zero x e = inl (sym (same_Some y x e))
slice_get-In (y ∷ xs) (suc k) x e = inr (slice_get-In xs k x e)

pub In-filter : {A : Type 0} (test : A → Bool) (x : A) (xs : List A) → In x (filter test xs) → In x xs × (test x ≡ true)
In-filter test x [] h = absurd h
In-filter {A = A} test x (y ∷ xs) h = by (test y) refl h (In-filter test x xs)
  where
    by : (b : Bool) → test y ≡ b → In x (cond b (y ∷ filter test xs) (filter test xs)) → (In x (filter test xs) → In x xs × (test x ≡ true)) → In x (y ∷ xs) × (test x ≡ true)
    by true e (inl s) more = (inl s, ap test s ∙ e)
    by true e (inr i) more = let m = more i in (inr m.0, m.1)
    by false e i more = let m = more i in (inr m.0, m.1)

pub In-reverse : {A : Type 0} (x : A) (xs : List A) → In x (reverse xs) → In x xs
In-reverse x [] h = absurd h
In-reverse x (y ∷ xs) h = elim (In-append x (reverse xs) (y ∷ []) (subst (In x) (reverse_onto xs y []) h)) [
  | inl i ↦ inr (In-reverse x xs i)
  | inr (inl e) ↦ inl e
  | inr (inr i) ↦ absurd i
]

pub Contains-In : {A : Type 0} (xs : List A) (x : A) → Contains xs x → In x xs
Contains-In {A = A} xs x h = at xs h.0 h.1 h.2
  where
    at : (ys : List A) (k : ℕ) → k < length ys → get_or ys k x ≡ x → In x ys
    at [] k l e = absurd (omega arith)
    at (y ∷ ys) zero l e = inl (sym e)
    at (y ∷ ys) (suc k) l e = inr (at ys k (omega arith) e)

pub seat_eq-same : (a b : Seat) → seat_eq a b ≡ true → a ≡ b
seat_eq-same (Agree i) (Agree j) e = ap Agree (eqb-true i j e)
seat_eq-same (Exec i) (Exec j) e = ap Exec (eqb-true i j e)
seat_eq-same (Filter r c) (Filter s d) e =
    let p = and_parts _ _ e in ap (λ x. Filter x c) (eqb-true r s p.0) ∙ ap (λ x. Filter s x) (eqb-true c d p.1)
seat_eq-same (Client i) (Client j) e = ap Client (eqb-true i j e)
seat_eq-same (Agree i) (Exec j) e = cc
seat_eq-same (Agree i) (Filter r c) e = cc
seat_eq-same (Agree i) (Client j) e = cc
seat_eq-same (Exec i) (Agree j) e = cc
seat_eq-same (Exec i) (Filter r c) e = cc
seat_eq-same (Exec i) (Client j) e = cc
seat_eq-same (Filter r c) (Agree j) e = cc
seat_eq-same (Filter r c) (Exec j) e = cc
seat_eq-same (Filter r c) (Client j) e = cc
seat_eq-same (Client i) (Agree j) e = cc
seat_eq-same (Client i) (Exec j) e = cc
seat_eq-same (Client i) (Filter r c) e = cc

pub seat_eq-refl : (a : Seat) → seat_eq a a ≡ true
seat_eq-refl (Agree i) = eq-eqb i i refl
seat_eq-refl (Exec i) = eq-eqb i i refl
seat_eq-refl (Filter r c) = and_from _ _ (eq-eqb r r refl) (eq-eqb c c refl)
seat_eq-refl (Client i) = eq-eqb i i refl
