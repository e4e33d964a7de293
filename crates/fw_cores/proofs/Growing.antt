-- One new node more.
use Rattle.std.proofs.Common.{◌≡◌, ◌⊎◌, ℕ, zero, suc, ◌+◌, ◌<◌, Bool, true, false, inl, inr, List, [], ◌∷◌, ◌++◌, length, get_or, Some, slice_get, refl, sym, ap, ◌∙◌, subst, arith, length-append}
use Rattle.std.specs.Prelude.{Result, Ok, Err, OnOk}
use Rattle.std.proofs.lemmas.Option.{slice_get_within}
use Rattle.fw_base.specs.declared.params.Params.{Params}
use Rattle.fw_base.specs.declared.seat.Seat.{Seat}
use Rattle.fw_step.specs.Fitting.{is_faulty}
use Rattle.fw_hand.specs.Hands.{PlainHand}
use Rattle.fw_deal.specs.Deals.{PlainDeal}
use Rattle.fw_fair.specs.Correct.{correct_below}
use Rattle.fw_fair.proofs.Seats.{correct_more, correct_same}
use Rattle.fw_grid.specs.Nodes.{Sends, Stands}
use Rattle.fw_cores.specs.Fresh.{IsFresh, AreFresh}

-- what follows with Ok
pub on_ok : {T E : Type 0} (r : Result T E) (P Q : Type 0) → (P → Q) → OnOk r P → OnOk r Q
on_ok (Ok x) P Q f p = f p
on_ok (Err e) P Q f p = p

-- an item of a list with one more is one of the list, or the last one
found_before : {A : Type 0} (xs : List A) (x y : A) (k : ℕ) → slice_get (xs ++ x ∷ []) k ≡ Some y → (slice_get xs k ≡ Some y) ⊎ ((k ≡ length xs) × (x ≡ y))
found_before [] x y zero found = inr (refl, (let same : x ≡ y = cc in same))
found_before [] x y (suc k) found = absurd (cc)
found_before (z ∷ xs) x y zero found = inl found
found_before (z ∷ xs) x y (suc k) found = elim (found_before xs x y k found) [
  | inl before ↦ inl before
  | inr last ↦ inr (ap suc last.0, last.1)
]

get_before : (numbers : List ℕ) (m k : ℕ) → k < length numbers → get_or (numbers ++ m ∷ []) k 0 ≡ get_or numbers k 0
get_before [] m k inside = absurd (omega arith)
get_before (n ∷ numbers) m zero inside = refl
get_before (n ∷ numbers) m (suc k) inside = get_before numbers m k (omega arith)

get_last : (numbers : List ℕ) (m : ℕ) → get_or (numbers ++ m ∷ []) (length numbers) 0 ≡ m
get_last [] m = refl
get_last (n ∷ numbers) m = get_last numbers m

fresh_more : {N : Type 0} (params : N → Params) (own : N → Seat) (hand : N → PlainHand) (rule : Sends N) (stands : Stands N) (stopped : N → Bool) (deal : PlainDeal) (seat_at : ℕ → Seat) (numbers : List ℕ) (m : ℕ) (nodes all : List N) (node : N)
    → AreFresh params own hand rule stands stopped deal seat_at numbers nodes → IsFresh params own hand rule stands stopped deal (seat_at m) node → all ≡ nodes ++ node ∷ [] → AreFresh params own hand rule stands stopped deal seat_at (numbers ++ m ∷ []) all
fresh_more params own hand rule stands stopped deal seat_at numbers m nodes all node before new is = record {
  many = ap length is ∙ length-append nodes (node ∷ []) ∙ ap (λ n. n + 1) before.many ∙ sym (length-append numbers (m ∷ []));
  each = λ k other found. elim (found_before nodes node other k (subst (λ l. slice_get l k ≡ Some other) is found)) [
    | inl old ↦
        subst (λ j. IsFresh params own hand rule stands stopped deal (seat_at j) other) (sym (get_before numbers m k (let b = before.many in let w = slice_get_within nodes k other old in omega arith)))
        (before.each k other old)
    | inr last ↦
        subst (λ n. IsFresh params own hand rule stands stopped deal (seat_at (get_or (numbers ++ m ∷ []) k 0)) n) last.1
        (subst (λ j. IsFresh params own hand rule stands stopped deal (seat_at j) node) (sym (ap (λ j. get_or (numbers ++ m ∷ []) j 0) (last.0 ∙ before.many) ∙ get_last numbers m)) new)
  ];
}

-- the node of a seat that is correct
pub fresh_next : {N : Type 0} (params : N → Params) (own : N → Seat) (hand : N → PlainHand) (rule : Sends N) (stands : Stands N) (stopped : N → Bool) (deal : PlainDeal) (faulty : List Seat) (seat_at : ℕ → Seat) (k : ℕ) (nodes all : List N) (node : N)
    → is_faulty faulty (seat_at k) ≡ false → AreFresh params own hand rule stands stopped deal seat_at (correct_below faulty seat_at k) nodes → IsFresh params own hand rule stands stopped deal (seat_at k) node → all ≡ nodes ++ node ∷ []
    → AreFresh params own hand rule stands stopped deal seat_at (correct_below faulty seat_at (k + 1)) all
fresh_next params own hand rule stands stopped deal faulty seat_at k nodes all node correct before new is =
    subst (λ (l : List ℕ). AreFresh params own hand rule stands stopped deal seat_at l all) (sym (correct_more faulty seat_at k correct))
    (fresh_more params own hand rule stands stopped deal seat_at (correct_below faulty seat_at k) k nodes all node before new is)

-- a seat that is faulty has none
pub fresh_passed : {N : Type 0} (params : N → Params) (own : N → Seat) (hand : N → PlainHand) (rule : Sends N) (stands : Stands N) (stopped : N → Bool) (deal : PlainDeal) (faulty : List Seat) (seat_at : ℕ → Seat) (k : ℕ) (nodes : List N)
    → is_faulty faulty (seat_at k) ≡ true → AreFresh params own hand rule stands stopped deal seat_at (correct_below faulty seat_at k) nodes → AreFresh params own hand rule stands stopped deal seat_at (correct_below faulty seat_at (k + 1)) nodes
fresh_passed params own hand rule stands stopped deal faulty seat_at k nodes wrong before =
    subst (λ (l : List ℕ). AreFresh params own hand rule stands stopped deal seat_at l nodes) (sym (correct_same faulty seat_at k wrong)) before
