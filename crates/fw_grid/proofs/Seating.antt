-- One node of a list is another, and histories by place and by seat.
use Rattle.std.proofs.Common.{◌≡◌, ℕ, zero, suc, ◌+◌, ◌*◌, ◌/◌, ◌%◌, ◌<◌, Bool, true, false, cond, nat_eq, List, [], ◌∷◌, ◌++◌, length, set, Option, Some, slice_get, refl, sym, ap, ap₂, ◌∙◌, arith, inl, inr, subst, IsTrue}
use Rattle.std.specs.Prelude.{Result, Ok, Err, OnOk}
use Rattle.std.proofs.lemmas.Bool.Decides.{eqb_tells}
use Rattle.std.proofs.lemmas.List.{length-set}
use Rattle.std.proofs.lemmas.Option.{slice_get_within, same_Some}
use Rattle.fw_base.specs.declared.params.Params.{Params}
use Rattle.fw_base.specs.declared.seat.Seat.{Seat}
use Rattle.fw_step.specs.Fitting.{is_correct}
use Rattle.fw_directory.specs.Directories.{PlainDirectory}
use Rattle.fw_hand.specs.Hands.{PlainHand}
use Rattle.fw_node.specs.Histories.{Taken, History, Out}
use Rattle.fw_fair.specs.Correct.{kind_of, count_below, correct_at, place_of}
use Rattle.fw_fair.proofs.Seats.{many_of, at_place, only_place}
use Rattle.fw_grid.specs.Nodes.{AreSeated, AreStanding, Stands, Sends, sends_of, hand_in, with_place, with_input}

-- what holds with Ok
pub on_ok : {T E : Type 0} (r : Result T E) (P Q : Type 0) → (P → Q) → OnOk r P → OnOk r Q
on_ok (Ok x) P Q f p = f p
on_ok (Err e) P Q f p = p

-- ---- one item is another

set_here : {A : Type 0} (xs : List A) (k : ℕ) (y : A) → k < length xs → slice_get (set xs k y) k ≡ Some y
set_here [] k y within = absurd (omega arith)
set_here (x ∷ xs) zero y within = refl
set_here (x ∷ xs) (suc k) y within = set_here xs k y (omega arith)

set_there : {A : Type 0} (xs : List A) (k j : ℕ) (y : A) → (k ≡ j → ⊥) → slice_get (set xs k y) j ≡ slice_get xs j
set_there [] k j y other = refl
set_there (x ∷ xs) zero zero y other = absurd (other refl)
set_there (x ∷ xs) zero (suc j) y other = refl
set_there (x ∷ xs) (suc k) zero y other = refl
set_there (x ∷ xs) (suc k) (suc j) y other = set_there xs k j y (λ e. other (ap suc e))

-- what holds of the new one at its place, and of all before, holds of all
each_set : {A : Type 0} (P : ℕ → A → Type 0) (xs : List A) (k : ℕ) (old new : A) → slice_get xs k ≡ Some old → P k new
    → ((j : ℕ) (x : A) → slice_get xs j ≡ Some x → P j x) → (j : ℕ) (x : A) → slice_get (set xs k new) j ≡ Some x → P j x
each_set P xs k old new there one all j x found =
    elim (eqb_tells k j) [
      | inl same ↦
          let here = set_here xs k new (slice_get_within xs k old there) in
          let is : new ≡ x = same_Some new x (sym here ∙ ap (slice_get (set xs k new)) same.1 ∙ found) in
          subst (λ y. P j y) is (subst (λ i. P i new) same.1 one)
      | inr other ↦ all j x (sym (set_there xs k j new other.1) ∙ found)
    ]

pub seated_set : {N : Type 0} (params : N → Params) (own : N → Seat) (p : Params) (seat_at : ℕ → Seat) (count : ℕ) (nodes : List N) (k : ℕ) (old new : N) → slice_get nodes k ≡ Some old → params new ≡ params old → own new ≡ own old
    → AreSeated params own p seat_at count nodes → AreSeated params own p seat_at count (set nodes k new)
seated_set {N} params own p seat_at count nodes k old new there sizes seat seated = record {
  many = length-set nodes k new ∙ seated.many;
  sizes = each_set (λ j (n : N). params n ≡ p) nodes k old new there (sizes ∙ seated.sizes k old there) seated.sizes;
  seats = each_set (λ j (n : N). own n ≡ seat_at j) nodes k old new there (seat ∙ seated.seats k old there) seated.seats;
}

pub sends_set : {N : Type 0} (rule : Sends N) (nodes : List N) (k : ℕ) (old new : N) → slice_get nodes k ≡ Some old → rule new ≡ rule old
    → (j : ℕ) (d : PlainDirectory) (h : History) → sends_of rule (slice_get (set nodes k new) j) d h ≡ sends_of rule (slice_get nodes j) d h
sends_set {N} rule nodes k old new there same j d h =
    elim (eqb_tells k j) [
      | inl here ↦
          (let now = sym (ap (slice_get (set nodes k new)) here.1) ∙ set_here nodes k new (slice_get_within nodes k old there) in
          let before = sym (ap (slice_get nodes) here.1) ∙ there in
          ap (λ (o : Option N). sends_of rule o d h) now ∙ ap (λ (r : PlainDirectory → History → Out). r d h) same ∙ ap (λ (o : Option N). sends_of rule o d h) (sym before))
      | inr other ↦ ap (λ (o : Option N). sends_of rule o d h) (set_there nodes k j new other.1)
    ]

pub hand_set : {N : Type 0} (hand : N → PlainHand) (nodes : List N) (k : ℕ) (old new : N) → slice_get nodes k ≡ Some old → hand new ≡ hand old
    → (j : ℕ) → hand_in hand (slice_get (set nodes k new) j) ≡ hand_in hand (slice_get nodes j)
hand_set {N} hand nodes k old new there same j =
    elim (eqb_tells k j) [
      | inl here ↦
          (let now = sym (ap (slice_get (set nodes k new)) here.1) ∙ set_here nodes k new (slice_get_within nodes k old there) in
          let before = sym (ap (slice_get nodes) here.1) ∙ there in
          ap (λ (o : Option N). hand_in hand o) now ∙ ap (λ (h : PlainHand). Some h) same ∙ ap (λ (o : Option N). hand_in hand o) (sym before))
      | inr other ↦ ap (λ (o : Option N). hand_in hand o) (set_there nodes k j new other.1)
    ]

-- a node took an input
pub standing_set : {N : Type 0} (stands : Stands N) (stopped : N → Bool) (d : PlainDirectory) (hs : ℕ → History) (nodes : List N) (k : ℕ) (old new : N) (input : Taken) → slice_get nodes k ≡ Some old → stopped new ≡ false
    → (stands old d (hs k) → stands new d (input ∷ hs k)) → AreStanding stands stopped d hs nodes → AreStanding stands stopped d (with_place hs k input) (set nodes k new)
standing_set {N} stands stopped d hs nodes k old new input there running took all j node found =
    elim (eqb_tells k j) [
      | inl same ↦
          let here = set_here nodes k new (slice_get_within nodes k old there) in
          let is : new ≡ node = same_Some new node (sym here ∙ ap (slice_get (set nodes k new)) same.1 ∙ found) in
          let history : input ∷ hs k ≡ with_place hs k input j =
          ap (λ i. input ∷ hs i) same.1 ∙ sym (ap (λ (b : Bool). cond b (input ∷ hs j) (hs j)) same.0) in
          subst (λ (n : N). (stopped n ≡ false) × stands n d (with_place hs k input j)) is (running, subst (λ (h : History). stands new d h) history (took (all k old there).1))
      | inr other ↦
          let before = all j node (sym (set_there nodes k j new other.1) ∙ found) in
          (before.0, subst (λ (h : History). stands node d h) (sym (ap (λ (b : Bool). cond b (input ∷ hs j) (hs j)) other.0)) before.1)
    ]

-- ---- histories by place, and by seat

pub standing_same : {N : Type 0} (stands : Stands N) (stopped : N → Bool) (d : PlainDirectory) (one other : ℕ → History) (nodes : List N) → ((k : ℕ) → k < length nodes → one k ≡ other k)
    → AreStanding stands stopped d one nodes → AreStanding stands stopped d other nodes
standing_same stands stopped d one other nodes same all k node found =
    let before = all k node found in (before.0, subst (λ h. stands node d h) (same k (slice_get_within nodes k node found)) before.1)

-- a seat took an input
pub histories_same : (p : Params) (faulty : List Seat) (seat : Seat) (hs : Seat → History) (place : ℕ) (input : Taken) → IsTrue (is_correct p faulty seat) → place ≡ place_of p faulty seat
    → (j : ℕ) → j < count_below faulty (kind_of p seat) (many_of p seat)
    → with_place (λ k. hs (correct_at faulty (kind_of p seat) (many_of p seat) k)) place input j ≡ with_input hs seat input (correct_at faulty (kind_of p seat) (many_of p seat) j)
histories_same p faulty seat hs place input correct is j inside =
    let at = correct_at faulty (kind_of p seat) (many_of p seat) j in
    ap (λ (b : Bool). cond b (input ∷ hs at) (hs at)) (ap (λ k. nat_eq k j) is ∙ only_place p faulty seat j correct inside)

-- the node of a place sends what its rule says
abbrev pub IsSent : {N : Type 0} → Stands N → (N → Bool) → Sends N → PlainDirectory → List N → ℕ → Taken → Out → Out → Type 0
IsSent stands stopped rule d nodes k input old new = (hs : ℕ → History) → AreStanding stands stopped d hs nodes → new ≡ old ++ sends_of rule (slice_get nodes k) d (input ∷ hs k)

-- what is sent for a correct seat
pub sent_by : {N : Type 0} (rule : Sends N) (nodes : List N) (d : PlainDirectory) (faulty : List Seat) (hs : Seat → History) (input : Taken) (seat : Seat) (place : ℕ) (old new : Out) → IsTrue (is_correct d.params faulty seat)
    → place ≡ place_of d.params faulty seat → new ≡ old ++ sends_of rule (slice_get nodes place) d (input ∷ hs (correct_at faulty (kind_of d.params seat) (many_of d.params seat) place))
    → new ≡ old ++ cond (is_correct d.params faulty seat) (sends_of rule (slice_get nodes (place_of d.params faulty seat)) d (input ∷ hs seat)) []
sent_by rule nodes d faulty hs input seat place old new correct is sent =
    sent ∙ ap (λ k. old ++ sends_of rule (slice_get nodes k) d (input ∷ hs (correct_at faulty (kind_of d.params seat) (many_of d.params seat) k))) is
    ∙ ap (λ s. old ++ sends_of rule (slice_get nodes (place_of d.params faulty seat)) d (input ∷ hs s)) (at_place d.params faulty seat correct).1
    ∙ sym (ap (λ b. old ++ cond b (sends_of rule (slice_get nodes (place_of d.params faulty seat)) d (input ∷ hs seat)) []) correct)

-- a correct seat's place is inside
pub place_inside : {N : Type 0} (params : N → Params) (own : N → Seat) (p : Params) (faulty : List Seat) (seat : Seat) (place : ℕ) (nodes : List N) → IsTrue (is_correct p faulty seat) → place ≡ place_of p faulty seat
    → AreSeated params own p (correct_at faulty (kind_of p seat) (many_of p seat)) (count_below faulty (kind_of p seat) (many_of p seat)) nodes → place < length nodes
place_inside params own p faulty seat place nodes correct is seated = let at = (at_place p faulty seat correct).0 in let many = seated.many in omega arith

pub cond_true : {A : Type 0} (b : Bool) (x y : A) → IsTrue b → cond b x y ≡ x
cond_true b x y h = ap (λ t. cond t x y) h
