-- The seats that a filter sends to: each seat stands once at most among those below, and what goes up goes to those above alone, which no seat below is.
use Rattle.std.proofs.Common.{ℕ, zero, suc, ◌+◌, ◌≤◌, ◌<◌, ◌≡◌, inl, inr, Bool, true, false, cond, nat_eq, List, [], ◌∷◌, map, refl, sym, ◌∙◌, ap, subst, arith, true≢false}
use Rattle.std.proofs.lemmas.Bool.{eqb-true, eq-eqb}
use Rattle.fw_list.specs.Lists.{numbers_from}
use Rattle.fw_base.specs.declared.params.Params.{Params}
use Rattle.fw_base.specs.declared.seat.Seat.{Seat}
use Rattle.fw_base.specs.declared.seat.Seat.TheVariants.{Agree, Exec, Filter, Client}
use Rattle.fw_base.specs.Sizes.{agreements, executors, width}
use Rattle.fw_base.specs.Seats.{seat_eq, above, below}
use Rattle.fw_trace.specs.Lists.{In}
use Rattle.fw_trace.proofs.Words.{seat_eq-same}
use Rattle.fw_rules.specs.Roles.{row_of, downs, ups}
use Rattle.fw_law_filter.specs.Copies.{one_if, times_in}

-- the number of a seat in its row
abbrev place : Seat → ℕ
place (Agree i) = i
place (Exec j) = j
place (Filter r c) = c
place (Client c) = c

module _ (f : ℕ → Seat) (seat : Seat) (placed : (i : ℕ) → place (f i) ≡ i) where
  at_place : (i : ℕ) → seat_eq (f i) seat ≡ true → i ≡ place seat
  at_place i e = sym (placed i) ∙ ap place (seat_eq-same (f i) seat e)

  never : (n first : ℕ) → place seat < first → times_in seat (map f (numbers_from first n)) ≡ 0
  never zero first past = refl
  never (suc n) first past = by (seat_eq (f first) seat) refl (never n (first + 1) (omega (arith, past)))
    where
      by : (b : Bool) → seat_eq (f first) seat ≡ b → times_in seat (map f (numbers_from (first + 1) n)) ≡ 0 → one_if b + times_in seat (map f (numbers_from (first + 1) n)) ≡ 0
      by true e rest = let at = at_place first e in omega (arith, at, past)
      by false e rest = omega (arith, rest)

  once : (n first : ℕ) → times_in seat (map f (numbers_from first n)) ≤ 1
  once zero first = omega arith
  once (suc n) first = by (seat_eq (f first) seat) refl (once n (first + 1))
    where
      by : (b : Bool) → seat_eq (f first) seat ≡ b → times_in seat (map f (numbers_from (first + 1) n)) ≤ 1 → one_if b + times_in seat (map f (numbers_from (first + 1) n)) ≤ 1
      by true e few =
          let at = at_place first e in
          let rest = never n (first + 1) (omega (arith, at)) in
          omega (arith, rest)
      by false e few = omega (arith, few)

pub downs_once : (p : Params) (r : ℕ) (seat : Seat) → times_in seat (downs p r) ≤ 1
downs_once p zero seat = once (λ i. Agree i) seat (λ i. refl) (agreements p) 0
downs_once p (suc r) seat = once (λ c. Filter r c) seat (λ i. refl) (width p) 0

-- ---- what goes up

mapped : (f : ℕ → Seat) (seat : Seat) (ns : List ℕ) → In seat (map f ns) → (i : ℕ) × (seat ≡ f i)
mapped f seat [] there = absurd there
mapped f seat (n ∷ ns) (inl e) = (n, e)
mapped f seat (n ∷ ns) (inr there) = mapped f seat ns there

pub none_above : (p : Params) (r c : ℕ) (seat : Seat) → above p (Filter r c) seat ≡ false → In seat (ups p r) → ⊥
none_above p r c seat over = by (nat_eq r p.h) refl
  where
    by : (b : Bool) → nat_eq r p.h ≡ b → In seat (cond b (map Exec (numbers_from 0 (executors p))) (row_of p (r + 1))) → ⊥
    by true e there =
        let j = mapped (λ j. Exec j) seat (numbers_from 0 (executors p)) there in
        let no : nat_eq r p.h ≡ false = subst (λ (s : Seat). above p (Filter r c) s ≡ false) j.1 over in
        true≢false (sym e ∙ no)
    by false e there =
        let d = mapped (λ d. Filter (r + 1) d) seat (numbers_from 0 (width p)) there in
        let no : nat_eq (r + 1) (r + 1) ≡ false = subst (λ (s : Seat). above p (Filter r c) s ≡ false) d.1 over in
        true≢false (sym (eq-eqb (r + 1) (r + 1) refl) ∙ no)

pub below_not_above : (p : Params) (r c : ℕ) (seat : Seat) → below (Filter r c) seat ≡ true → above p (Filter r c) seat ≡ false
below_not_above p r c (Agree i) under = refl
below_not_above p r c (Exec j) under = cc
below_not_above p r c (Client j) under = refl
below_not_above p r c (Filter s d) under = by (nat_eq s (r + 1)) refl
  where
    by : (b : Bool) → nat_eq s (r + 1) ≡ b → b ≡ false
    by false e = refl
    by true e =
        let up = eqb-true s (r + 1) e in
        let down = eqb-true r (s + 1) under in
        absurd (omega (arith, up, down))
