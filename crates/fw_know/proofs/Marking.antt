-- Marks that are set, and the places that they stand for.
use Rattle.std.proofs.Common.{◌≡◌, ℕ, zero, suc, ◌+◌, ◌*◌, ◌<◌, ◌≤◌, List, [], ◌∷◌, ◌++◌, Bool, true, false, ◌&&◌, ◌||◌, nat_eq, nat_lt, nat_le, length, take, get_or, IsTrue, refl, sym, ap, ap₂, ◌∙◌, inl, inr, arith, take_all}
use Rattle.std.specs.List.{list_any}
use Rattle.std.proofs.lemmas.Bool.{cases_Bool, cases_order, and_parts, and_from, and_right, or_left, or_right, false_from_ne_true, eq-eqb, eqb-true, ne_eqb, lt-ltb, le-ltb, le-leb}
use Rattle.std.proofs.lemmas.List.Folds.{list_any_more}
use Rattle.fw_base.specs.declared.params.Params.{Params}
use Rattle.fw_base.specs.declared.seat.Seat.{Seat}
use Rattle.fw_base.specs.declared.slot.Slot.{Slot}
use Rattle.fw_base.specs.declared.slot.Place.{Place}
use Rattle.fw_base.specs.Places.{slot_fits, last_point, place_fits, place_index}
use Rattle.fw_base.proofs.Placing.{one_place, fitting}
use Rattle.fw_directory.proofs.Bounds.{place_below}
use Rattle.fw_hand.specs.Hands.{slot_eq, is_among, is_own, point_of}
use Rattle.fw_hand.proofs.OwnSlots.{same_slot, among_at}
use Rattle.fw_know.specs.Known.{place_eq, dealt_to, marked}
use Rattle.fw_know.specs.Marks.{AreMarks, Marks, is_of, is_at, is_before, is_of_any}

-- ---- places that are one

slot_itself : (s : Slot) → slot_eq s s ≡ true
slot_itself s =
    let among : is_among s (s ∷ []) ≡ true = among_at (s ∷ []) 0 s (omega arith) in
    elim (cases_Bool (slot_eq s s)) [
      | inl is ↦ is
      | inr other ↦ (let no : (false || false) ≡ true = rw other at among in absurd (let never : ⊥ = cc in never))
    ]

pub place_itself : (a : Place) → place_eq a a ≡ true
place_itself a =
    and_from (slot_eq a.slot a.slot) _ (slot_itself a.slot)
    (and_from (nat_eq a.bit a.bit) _ (eq-eqb a.bit a.bit refl) (and_from (nat_eq a.side a.side) (nat_eq a.point a.point) (eq-eqb a.side a.side refl) (eq-eqb a.point a.point refl)))

abbrev made : Slot → ℕ → ℕ → ℕ → Place
made slot bit side point = record { slot = slot; bit = bit; side = side; point = point }

pub same_place : (a b : Place) → place_eq a b ≡ true → a ≡ b
same_place a b e =
    let one = and_parts (slot_eq a.slot b.slot) (nat_eq a.bit b.bit && (nat_eq a.side b.side && nat_eq a.point b.point)) e in
    let two = and_parts (nat_eq a.bit b.bit) (nat_eq a.side b.side && nat_eq a.point b.point) one.1 in
    let three = and_parts (nat_eq a.side b.side) (nat_eq a.point b.point) two.1 in
    ap (λ s. made s a.bit a.side a.point) (same_slot a.slot b.slot one.0)
    ∙ ap (λ x. made b.slot x a.side a.point) (eqb-true a.bit b.bit two.0)
    ∙ ap (λ x. made b.slot b.bit x a.point) (eqb-true a.side b.side three.0)
    ∙ ap (λ x. made b.slot b.bit b.side x) (eqb-true a.point b.point three.1)

-- of a place's index alone
pub placed : (p : Params) (a other : Place) (index : ℕ) (m : Bool) → IsTrue (place_fits p a) → IsTrue (place_fits p other) → index ≡ place_index p a
    → (nat_eq (place_index p other) index || m) ≡ (m || place_eq a other)
placed p a other index m fits fits2 at = elim (cases_Bool (place_eq a other)) [
  | inl same ↦
      let one : other ≡ a = sym (same_place a other same) in
      or_left (nat_eq (place_index p other) index) m (eq-eqb (place_index p other) index (ap (place_index p) one ∙ sym at)) ∙ sym (or_right m (place_eq a other) same)
  | inr apart ↦
      let differ : nat_eq (place_index p other) index ≡ false = ne_eqb (place_index p other) index (λ e.
      let one : other ≡ a = one_place p other a fits2 fits (e ∙ at) in
      let no : false ≡ true = sym apart ∙ ap (place_eq a) one ∙ place_itself a in
      cc) in
      rw (differ, apart) (or_none m)
]
  where
    or_none : (b : Bool) → b ≡ (b || false)
    or_none true = refl
    or_none false = refl

pub made_fits : (p : Params) (slot : Slot) (bit side point : ℕ) → IsTrue (slot_fits p slot) → bit < 256 → side < 2 → point ≤ last_point p slot → IsTrue (place_fits p (made slot bit side point))
made_fits p slot bit side point fits b s at =
    and_from _ _ (and_from _ _ (and_from _ _ fits (lt-ltb bit 256 b)) (lt-ltb side 2 s)) (and_from (nat_le 0 point) (nat_le point (last_point p slot)) (le-leb 0 point (omega arith)) (le-leb point (last_point p slot) at))

-- ---- one marking after another

or_assoc : (a b c : Bool) → ((a || b) || c) ≡ (a || (b || c))
or_assoc true b c = refl
or_assoc false b c = refl

pub marked_both : (p : Params) (f g h : Place → Bool) (before between after : List Bool) → Marks p f before between → Marks p g between after
    → ((place : Place) → IsTrue (place_fits p place) → (f place || g place) ≡ h place) → Marks p h before after
marked_both p f g h before between after one two same = λ place fits.
    two place fits ∙ ap (λ b. b || g place) (one place fits) ∙ or_assoc (marked p before place) (f place) (g place) ∙ ap (λ b. marked p before place || b) (same place fits)

pub marked_none : (p : Params) (f : Place → Bool) (before : List Bool) → ((place : Place) → f place ≡ false) → Marks p f before before
marked_none p f before none = λ place fits. or_none (marked p before place) ∙ ap (λ b. marked p before place || b) (sym (none place))
  where
    or_none : (b : Bool) → b ≡ (b || false)
    or_none true = refl
    or_none false = refl

pub marked_same : (p : Params) (f g : Place → Bool) (before after : List Bool) → Marks p f before after → ((place : Place) → IsTrue (place_fits p place) → f place ≡ g place) → Marks p g before after
marked_same p f g before after is same = λ place fits. is place fits ∙ ap (λ b. marked p before place || b) (same place fits)

-- ---- both sides of a bit

either : (side : ℕ) → side < 2 → (nat_eq 0 side || nat_eq 1 side) ≡ true
either zero below = refl
either (suc zero) below = refl
either (suc (suc n)) below = absurd (omega arith)

two_sides : (s b q x y : Bool) → (x || y) ≡ true → (s && (b && (x && q)) || s && (b && (y && q))) ≡ ((s && q) && b)
two_sides false b q x y e = refl
two_sides true false true x y e = refl
two_sides true false false x y e = refl
two_sides true true true true y e = refl
two_sides true true false true true e = refl
two_sides true true false true false e = refl
two_sides true true true false true e = refl
two_sides true true false false true e = refl
two_sides true true q false false e = absurd (let no : ⊥ = cc in no)

pub both_sides : (p : Params) (slot : Slot) (point bit : ℕ) (place : Place) → IsTrue (place_fits p place) → (place_eq (made slot bit 0 point) place || place_eq (made slot bit 1 point) place) ≡ is_at slot point bit place
both_sides p slot point bit place fits =
    two_sides (slot_eq slot place.slot) (nat_eq bit place.bit) (nat_eq point place.point) (nat_eq 0 place.side) (nat_eq 1 place.side) (either place.side (fitting p place fits).side)

-- ---- one bit after another

next_bit : (b k : ℕ) → (nat_lt b k || nat_eq k b) ≡ nat_lt b (k + 1)
next_bit b k = elim (cases_order b k) [
  | inl same ↦ or_right (nat_lt b k) (nat_eq k b) (eq-eqb k b (sym same)) ∙ sym (lt-ltb b (k + 1) (omega arith))
  | inr apart ↦ elim apart [
    | inl less ↦ or_left (nat_lt b k) (nat_eq k b) (lt-ltb b k less) ∙ sym (lt-ltb b (k + 1) (omega arith))
    | inr more ↦
        let not_less : nat_lt b k ≡ false = le-ltb b k (omega arith) in
        let not_same : nat_eq k b ≡ false = ne_eqb k b (λ e. omega (arith, e, more)) in
        rw (not_less, not_same) (sym (le-ltb b (k + 1) (omega arith)))
  ]
]

and_or : (a b c : Bool) → (a && b || a && c) ≡ (a && (b || c))
and_or true b c = refl
and_or false b c = refl

pub one_bit_more : (slot : Slot) (point k : ℕ) (place : Place) → (is_before slot point k place || is_at slot point k place) ≡ is_before slot point (k + 1) place
one_bit_more slot point k place = and_or (is_of slot point place) (nat_lt place.bit k) (nat_eq k place.bit) ∙ ap (λ b. is_of slot point place && b) (next_bit place.bit k)

pub no_bit : (slot : Slot) (point : ℕ) (place : Place) → is_before slot point 0 place ≡ false
no_bit slot point place = and_right (is_of slot point place) (nat_lt place.bit 0) (le-ltb place.bit 0 (omega arith))

and_all : (a : Bool) → (a && true) ≡ a
and_all true = refl
and_all false = refl

pub all_bits : (p : Params) (slot : Slot) (point k : ℕ) (place : Place) → 256 ≤ k → IsTrue (place_fits p place) → is_before slot point k place ≡ is_of slot point place
all_bits p slot point k place end fits =
    let bit : place.bit < 256 = (fitting p place fits).bit in
    ap (λ b. is_of slot point place && b) (lt-ltb place.bit k (omega arith)) ∙ and_all (is_of slot point place)

-- ---- one slot after another

or_and : (a b q : Bool) → (a && q || b && q) ≡ ((a || b) && q)
or_and true true true = refl
or_and true true false = refl
or_and true false true = refl
or_and true false false = refl
or_and false b q = refl

pub one_slot_more : (slots : List Slot) (i point : ℕ) (d : Slot) (place : Place) → i < length slots → (is_of_any (take i slots) point place || is_of (get_or slots i d) point place) ≡ is_of_any (take (i + 1) slots) point place
one_slot_more slots i point d place inside =
    or_and (is_among place.slot (take i slots)) (slot_eq (get_or slots i d) place.slot) (nat_eq point place.point)
    ∙ ap (λ b. b && nat_eq point place.point) (sym (list_any_more (λ s. slot_eq s place.slot) slots i d inside))

pub all_slots : (slots : List Slot) (i point : ℕ) (place : Place) → length slots ≤ i → is_of_any (take i slots) point place ≡ is_of_any slots point place
all_slots slots i point place end = ap (λ xs. is_of_any xs point place) (take_all i slots end)

-- what a seat is dealt is what its slots have at its point
pub dealt_slots : (p : Params) (seat : Seat) (slots items : List Slot) (point : ℕ) (place : Place) → IsTrue (place_fits p place) → items ≡ slots → point ≡ point_of seat
    → ((slot : Slot) → is_among slot slots ≡ (slot_fits p slot && is_own seat slot)) → is_of_any items point place ≡ dealt_to place seat
dealt_slots p seat slots items point place fits all at own =
    let here : slot_fits p place.slot ≡ true = (fitting p place fits).slot in
    ap₂ (λ xs n. is_of_any xs n place) all at
    ∙ ap (λ b. b && nat_eq (point_of seat) place.point) (own place.slot ∙ ap (λ b. b && is_own seat place.slot) here)

-- ---- one item after another

pub one_item_more : {X : Type 0} (test : X → Bool) (xs : List X) (i : ℕ) (d : X) → i < length xs → (list_any test (take i xs) || test (get_or xs i d)) ≡ list_any test (take (i + 1) xs)
one_item_more test xs i d inside = sym (list_any_more test xs i d inside)

pub all_items : {X : Type 0} (test : X → Bool) (xs : List X) (i : ℕ) → length xs ≤ i → list_any test (take i xs) ≡ list_any test xs
all_items test xs i end = ap (list_any test) (take_all i xs end)

-- each place has a mark
pub inside : (p : Params) (place : Place) (marks : List Bool) (index : ℕ) → AreMarks p marks → IsTrue (place_fits p place) → index ≡ place_index p place → index < length marks
inside p place marks index are fits at =
    let below = place_below p place fits in
    let whole = are.whole in
    rw (at, whole) below
