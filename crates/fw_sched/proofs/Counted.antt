-- Counts of submissions, and of seats.
use Rattle.std.proofs.Common.{◌≡◌, ℕ, ◌+◌, ◌<◌, ◌≤◌, true, ◌&&◌, nat_eq, nat_lt, List, [], ◌∷◌, ◌++◌, length, inl, inr, IsTrue, slice_index, slice_set, length-append, refl, sym, ◌∙◌, arith}
use Rattle.std.proofs.lemmas.Bool.{cases_Bool, cases_eq, eq-eqb, ne_eqb, and_parts, and_from, ltb-true, lt-ltb}
use Rattle.std.proofs.lemmas.List.{get_or-set_same, get_or-set_other}
use Rattle.std.proofs.lemmas.Nat.{mul-le}
use Rattle.std.proofs.lemmas.List.Folds.{list_all-append}
use Rattle.std.specs.List.{list_all}
use Rattle.fw_base.specs.declared.params.Params.{Params}
use Rattle.fw_base.specs.declared.seat.Seat.{Seat}
use Rattle.fw_base.specs.declared.seat.Seat.TheVariants as seats
use Rattle.fw_base.specs.Seats.{fits, seat_index}
use Rattle.fw_base.specs.Sizes.{accepted, agreements, executors, width}
use Rattle.fw_op.specs.declared.op.Op.{Op}
use Rattle.fw_step.specs.declared.step.Step.{Step}
use Rattle.fw_step.specs.declared.step.Step.TheVariants.{Submit, Deliver, Flush, Tick, Lie}
use Rattle.fw_step.proofs.Whole.{small_sizes}
use Rattle.fw_sched.specs.Document.{submissions_of}
use Rattle.fw_sched.specs.Stages.{AreCounts}

submissions_append : (c : ℕ) (xs ys : List Step) → submissions_of c (xs ++ ys) ≡ submissions_of c xs + submissions_of c ys
submissions_append c [] ys = omega arith
submissions_append c (Submit client op ∷ xs) ys =
    let rest = submissions_append c xs ys in
    elim (cases_Bool (nat_eq client c)) [
      | inl same ↦ rw same (omega (arith, rest))
      | inr other ↦ rw other rest
    ]
submissions_append c (Deliver frame ∷ xs) ys = submissions_append c xs ys
submissions_append c (Flush most ∷ xs) ys = submissions_append c xs ys
submissions_append c (Tick seat ∷ xs) ys = submissions_append c xs ys
submissions_append c (Lie from to lie ∷ xs) ys = submissions_append c xs ys

-- one submission more
pub one_submission : (c client : ℕ) (op : Op) (xs : List Step) → c ≡ client → submissions_of c (xs ++ Submit client op ∷ []) ≡ submissions_of c xs + 1
one_submission c client op xs same =
    let split = submissions_append c xs (Submit client op ∷ []) in
    let one : submissions_of c (Submit client op ∷ []) ≡ 1 = rw (eq-eqb client c (sym same)) refl in
    omega (arith, split, one)

pub no_submission : (c client : ℕ) (op : Op) (xs : List Step) → (c ≡ client → ⊥) → submissions_of c (xs ++ Submit client op ∷ []) ≡ submissions_of c xs
no_submission c client op xs other =
    let split = submissions_append c xs (Submit client op ∷ []) in
    let none : submissions_of c (Submit client op ∷ []) ≡ 0 = rw (ne_eqb client c (λ e. other (sym e))) refl in
    omega (arith, split, none)

-- a step that is none
pub not_counted : (step : Step) → ((client : ℕ) (op : Op) → step ≡ Submit client op → ⊥) → (c : ℕ) (xs : List Step) → submissions_of c (xs ++ step ∷ []) ≡ submissions_of c xs
not_counted (Submit client op) not c xs = absurd (not client op refl)
not_counted (Deliver frame) not c xs = let split = submissions_append c xs (Deliver frame ∷ []) in omega (arith, split)
not_counted (Flush most) not c xs = let split = submissions_append c xs (Flush most ∷ []) in omega (arith, split)
not_counted (Tick seat) not c xs = let split = submissions_append c xs (Tick seat ∷ []) in omega (arith, split)
not_counted (Lie from to lie) not c xs = let split = submissions_append c xs (Lie from to lie ∷ []) in omega (arith, split)

-- the counts behind one submission more
pub counted_more : (counts : List ℕ) (client : ℕ) (op : Op) (xs : List Step) → length counts ≡ 8 → client < 8 → AreCounts counts xs → AreCounts (slice_set counts client (slice_index counts client + 1)) (xs ++ Submit client op ∷ [])
counted_more counts client op xs eight inside are c below =
    elim (cases_eq c client) [
      | inl same ↦
          let at : slice_index (slice_set counts client (slice_index counts client + 1)) client ≡ slice_index counts client + 1 = get_or-set_same counts client (slice_index counts client + 1) 0 (omega arith) in
          let here = are client inside in
          let more = one_submission client client op xs refl in
          rw same (omega (arith, at, here, more))
      | inr other ↦ get_or-set_other counts client c (slice_index counts client + 1) 0 other ∙ are c below ∙ sym (no_submission c client op xs other)
    ]

-- a seat's place is small
pub small_index : (p : Params) (seat : Seat) → IsTrue (accepted p) → fits p seat ≡ true → seat_index p seat < 1000
small_index p (seats.Agree i) sizes fit = omega (arith, ltb-true i (agreements p) fit, (small_sizes p sizes).agreements)
small_index p (seats.Exec j) sizes fit = omega (arith, ltb-true j (executors p) fit, (small_sizes p sizes).agreements, (small_sizes p sizes).executors)
small_index p (seats.Filter r c) sizes fit =
    let both = and_parts (nat_lt r (width p)) (nat_lt c (width p)) fit in
    let small = small_sizes p sizes in
    let row = mul-le r (width p) 10 10 (omega (arith, ltb-true r (width p) both.0, small.width)) small.width in
    omega (arith, ltb-true c (width p) both.1, small.agreements, small.executors, small.width, row)
small_index p (seats.Client c) sizes fit =
    let small = small_sizes p sizes in
    let square = mul-le (width p) (width p) 10 10 small.width small.width in
    omega (arith, ltb-true c p.clients fit, small.agreements, small.executors, small.clients, square)

all_small : (p : Params) (seats : List Seat) → IsTrue (accepted p) → list_all (fits p) seats ≡ true → list_all (λ s. nat_lt (seat_index p s) 1000) seats ≡ true
all_small p [] sizes fit = refl
all_small p (s ∷ seats) sizes fit =
    let both = and_parts (fits p s) (list_all (fits p) seats) fit in
    and_from (nat_lt (seat_index p s) 1000) (list_all (λ s. nat_lt (seat_index p s) 1000) seats) (lt-ltb (seat_index p s) 1000 (small_index p s sizes both.0)) (all_small p seats sizes both.1)

-- ascending seats are few
pub few_seats : (p : Params) (seats : List Seat) → IsTrue (accepted p) → list_all (fits p) seats ≡ true → ((k : ℕ) → list_all (λ s. nat_lt (seat_index p s) k) seats ≡ true → length seats ≤ k) → length seats ≤ 1000
few_seats p seats sizes fit few = few 1000 (all_small p seats sizes fit)

pub few_more : (p : Params) (seats : List Seat) (seat : Seat) → ((k : ℕ) → list_all (λ s. nat_lt (seat_index p s) k) seats ≡ true → length seats ≤ k) → list_all (λ s. nat_lt (seat_index p s) (seat_index p seat)) seats ≡ true
    → (k : ℕ) → list_all (λ s. nat_lt (seat_index p s) k) (seats ++ seat ∷ []) ≡ true → length (seats ++ seat ∷ []) ≤ k
few_more p seats seat few above k all =
    let split = sym (list_all-append (λ s. nat_lt (seat_index p s) k) seats (seat ∷ [])) ∙ all in
    let last = and_parts (list_all (λ s. nat_lt (seat_index p s) k) seats) (list_all (λ s. nat_lt (seat_index p s) k) (seat ∷ [])) split in
    let one = ltb-true (seat_index p seat) k (and_parts (nat_lt (seat_index p seat) k) true last.1).0 in
    let before = few (seat_index p seat) above in
    omega (arith, length-append seats (seat ∷ []), one, before)

pub fit_more : (p : Params) (seats : List Seat) (seat : Seat) → list_all (fits p) seats ≡ true → fits p seat ≡ true → list_all (fits p) (seats ++ seat ∷ []) ≡ true
fit_more p seats seat all one = list_all-append (fits p) seats (seat ∷ []) ∙ and_from (list_all (fits p) seats) (fits p seat && true) all (and_from (fits p seat) true one refl)
