-- The place of a correct seat among those of its kind is its own, and no other's.
use Rattle.std.proofs.Common.{◌≡◌, ℕ, ◌+◌, ◌-◌, ◌*◌, ◌/◌, ◌%◌, ◌<◌, Bool, true, false, not, nat_eq, nat_lt, List, [], ◌∷◌, ◌++◌, length, get_or, IsTrue, refl, sym, ap, ap₂, ◌∙◌, arith, inl, inr, subst, length-append}
use Rattle.std.specs.Prelude.{◌&&◌}
use Rattle.std.proofs.lemmas.Bool.{and_parts, ltb-true}
use Rattle.std.proofs.lemmas.Bool.Decides.{eqb_tells}
use Rattle.std.proofs.lemmas.Nat.{div-mul-add, mod-mul-add, mul-add-lt, div-add-mod'}
use Rattle.fw_base.specs.declared.params.Params.{Params}
use Rattle.fw_base.specs.declared.seat.Seat.{Seat}
use Rattle.fw_base.specs.declared.seat.Seat.TheVariants.{Agree, Exec, Filter, Client}
use Rattle.fw_base.specs.Sizes.{agreements, executors, width}
use Rattle.fw_base.specs.Seats.{fits, seat_eq}
use Rattle.fw_step.specs.Fitting.{is_faulty, is_correct}
use Rattle.fw_trace.proofs.Words.{seat_eq-refl, seat_eq-same}
use Rattle.fw_fair.specs.Correct.{filter_at, kind_of, number_of, correct_below, count_below, correct_at, place_of}
use Rattle.fw_fair.proofs.Ranks.{below, below_zero, IsRank, rank_at, stands_at, passing_more, passing_same}

-- how many seats of its kind a deployment has
abbrev pub many_of : Params → Seat → ℕ
many_of p (Agree i) = agreements p
many_of p (Exec j) = executors p
many_of p (Filter row column) = width p * width p
many_of p (Client c) = p.clients

-- a seat of the deployment is the one of its number, and that is below their count
pub own_number : (p : Params) (seat : Seat) → IsTrue (fits p seat) → (kind_of p seat (number_of p seat) ≡ seat) × (number_of p seat < many_of p seat)
own_number p (Agree i) fit = (refl, ltb-true i (agreements p) fit)
own_number p (Exec j) fit = (refl, ltb-true j (executors p) fit)
own_number p (Filter row column) fit =
    let parts = and_parts (nat_lt row (width p)) (nat_lt column (width p)) fit in
    let below : column < width p = ltb-true column (width p) parts.1 in
    (ap₂ Filter (div-mul-add row (width p) column below) (mod-mul-add row (width p) column below), mul-add-lt row (width p) column (width p) (ltb-true row (width p) parts.0) below)
own_number p (Client c) fit = (refl, ltb-true c p.clients fit)

-- each number has a seat of its own
one_number : (p : Params) (seat : Seat) (a b : ℕ) → kind_of p seat a ≡ kind_of p seat b → a ≡ b
one_number p (Agree i) a b same = let e : Agree a ≡ Agree b = same in cc
one_number p (Exec j) a b same = let e : Exec a ≡ Exec b = same in cc
one_number p (Filter row column) a b same =
    let e : Filter (a / width p) (a % width p) ≡ Filter (b / width p) (b % width p) = same in
    let rows : a / width p ≡ b / width p = cc in
    let columns : a % width p ≡ b % width p = cc in
    sym (div-add-mod' a (width p)) ∙ ap₂ (λ r c. r * width p + c) rows columns ∙ div-add-mod' b (width p)
one_number p (Client c) a b same = let e : Client a ≡ Client b = same in cc

not_true : (b : Bool) → b ≡ false → not b ≡ true
not_true b e = ap not e

is_not : (b : Bool) → not b ≡ true → b ≡ false
is_not true e = absurd (let wrong : ◌≡◌ {A = Bool} false true = e in cc)
is_not false e = refl

-- a correct seat stands at its place
pub at_place : (p : Params) (faulty : List Seat) (seat : Seat) → IsTrue (is_correct p faulty seat)
    → (place_of p faulty seat < count_below faulty (kind_of p seat) (many_of p seat)) × (correct_at faulty (kind_of p seat) (many_of p seat) (place_of p faulty seat) ≡ seat)
at_place p faulty seat correct =
    let parts = and_parts (fits p seat) (not (is_faulty faulty seat)) correct in
    let own = own_number p seat parts.0 in
    let passes : not (is_faulty faulty (kind_of p seat (number_of p seat))) ≡ true = ap (λ s. not (is_faulty faulty s)) own.0 ∙ parts.1 in
    let t : ℕ → Bool = λ k. not (is_faulty faulty (kind_of p seat k)) in
    let there = stands_at t 0 (many_of p seat) (number_of p seat) (omega arith) (let o = own.1 in omega arith) passes in
    let here : below t 0 (number_of p seat) ≡ place_of p faulty seat = below_zero t (number_of p seat) in
    (subst (λ n. n < count_below faulty (kind_of p seat) (many_of p seat)) here there.0, ap (correct_at faulty (kind_of p seat) (many_of p seat)) (sym here) ∙ ap (kind_of p seat) there.1 ∙ own.0)

-- and no other one does
pub only_place : (p : Params) (faulty : List Seat) (seat : Seat) (j : ℕ) → IsTrue (is_correct p faulty seat) → j < count_below faulty (kind_of p seat) (many_of p seat)
    → nat_eq (place_of p faulty seat) j ≡ seat_eq seat (correct_at faulty (kind_of p seat) (many_of p seat) j)
only_place p faulty seat j correct inside =
    elim (eqb_tells (place_of p faulty seat) j) [
      | inl same ↦ same.0 ∙ sym (ap (seat_eq seat) (ap (correct_at faulty (kind_of p seat) (many_of p seat)) (sym same.1) ∙ (at_place p faulty seat correct).1) ∙ seat_eq-refl seat)
      | inr other ↦ other.0 ∙ sym (apart (seat_eq seat (correct_at faulty (kind_of p seat) (many_of p seat) j)) refl other.1)
    ]
  where
    apart : (b : Bool) → seat_eq seat (correct_at faulty (kind_of p seat) (many_of p seat) j) ≡ b → (place_of p faulty seat ≡ j → ⊥) → b ≡ false
    apart false test other = refl
    apart true test other =
        let parts = and_parts (fits p seat) (not (is_faulty faulty seat)) correct in
        let own = own_number p seat parts.0 in
        let x = get_or (correct_below faulty (kind_of p seat) (many_of p seat)) j 0 in
        let rank = rank_at (λ k. not (is_faulty faulty (kind_of p seat k))) 0 (many_of p seat) j inside in
        let same : number_of p seat ≡ x = one_number p seat (number_of p seat) x (own.0 ∙ seat_eq-same seat (kind_of p seat x) test) in
        absurd (other (ap (count_below faulty (kind_of p seat)) same ∙ sym (below_zero (λ k. not (is_faulty faulty (kind_of p seat k))) x) ∙ rank.rank))

-- the seat at a place of the list is a correct one of the deployment's kind
pub is_correct_at : (faulty : List Seat) (seat_at : ℕ → Seat) (count j : ℕ) → j < count_below faulty seat_at count
    → (get_or (correct_below faulty seat_at count) j 0 < count) × (is_faulty faulty (correct_at faulty seat_at count j) ≡ false)
is_correct_at faulty seat_at count j inside =
    let rank = rank_at (λ k. not (is_faulty faulty (seat_at k))) 0 count j inside in
    ((let w = rank.within in omega arith), is_not (is_faulty faulty (correct_at faulty seat_at count j)) rank.passes)

-- so many stand below it
pub place_at : (faulty : List Seat) (seat_at : ℕ → Seat) (count j : ℕ) → j < count_below faulty seat_at count → count_below faulty seat_at (get_or (correct_below faulty seat_at count) j 0) ≡ j
place_at faulty seat_at count j inside =
    let t : ℕ → Bool = λ k. not (is_faulty faulty (seat_at k)) in
    sym (below_zero t (get_or (correct_below faulty seat_at count) j 0)) ∙ (rank_at t 0 count j inside).rank

-- ---- one seat more of a kind

pub correct_more : (faulty : List Seat) (seat_at : ℕ → Seat) (k : ℕ) → is_faulty faulty (seat_at k) ≡ false → correct_below faulty seat_at (k + 1) ≡ correct_below faulty seat_at k ++ k ∷ []
correct_more faulty seat_at k correct = passing_more (λ j. not (is_faulty faulty (seat_at j))) k (not_true (is_faulty faulty (seat_at k)) correct)

pub correct_same : (faulty : List Seat) (seat_at : ℕ → Seat) (k : ℕ) → is_faulty faulty (seat_at k) ≡ true → correct_below faulty seat_at (k + 1) ≡ correct_below faulty seat_at k
correct_same faulty seat_at k wrong = passing_same (λ j. not (is_faulty faulty (seat_at j))) k (ap not wrong)

pub count_more : (faulty : List Seat) (seat_at : ℕ → Seat) (k : ℕ) → is_faulty faulty (seat_at k) ≡ false → count_below faulty seat_at (k + 1) ≡ count_below faulty seat_at k + 1
count_more faulty seat_at k correct = ap length (correct_more faulty seat_at k correct) ∙ length-append (correct_below faulty seat_at k) (k ∷ [])

pub count_same : (faulty : List Seat) (seat_at : ℕ → Seat) (k : ℕ) → is_faulty faulty (seat_at k) ≡ true → count_below faulty seat_at (k + 1) ≡ count_below faulty seat_at k
count_same faulty seat_at k wrong = ap length (correct_same faulty seat_at k wrong)
