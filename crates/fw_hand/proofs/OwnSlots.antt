-- Which slots are a seat's: those of the deployment that it owns, and of an executor the replies.
use Rattle.std.proofs.Common.{◌≡◌, ℕ, ◌+◌, ◌<◌, ◌≤◌, zero, suc, Bool, true, false, ◌&&◌, ◌||◌, nat_lt, nat_le, nat_eq, List, [], ◌∷◌, ◌++◌, map, length, get_or, Option, Some, None, refl, sym, ap, ap₂, ◌∙◌, arith, if◌then◌else◌}
use Rattle.std.specs.Prelude.{flat_map}
use Rattle.std.specs.List.{list_any}
use Rattle.std.proofs.lemmas.Bool.{and_parts, and_from, and_right, or_from, or_left, or_right, ltb-true, eqb-true, eq-eqb}
use Rattle.std.proofs.lemmas.Bool.Decides.{nat_tests}
use Rattle.std.proofs.lemmas.List.Folds.{list_any-append}
use Rattle.fw_list.specs.Lists.{numbers_from}
use Rattle.fw_list.specs.Numbers.{within}
use Rattle.fw_base.specs.declared.params.Params.{Params}
use Rattle.fw_base.specs.declared.seat.Seat.{Seat}
use Rattle.fw_base.specs.declared.seat.Seat.TheVariants.{Agree, Exec, Filter, Client}
use Rattle.fw_base.specs.declared.slot.Slot.{Slot}
use Rattle.fw_base.specs.declared.slot.Slot.TheVariants.{Prepare, Commit, Change, NewView, Request, Reply}
use Rattle.fw_base.specs.Seats.{fits}
use Rattle.fw_base.specs.Sizes.{agreements, executors}
use Rattle.fw_base.specs.Places.{slot_fits, last_point}
use Rattle.fw_hand.specs.declared.hand.Held.{Held}
use Rattle.fw_hand.specs.Hands.{slots_of, votes_of, is_own, is_among, point_of, slot_eq, values_in}

-- whether a number does
abbrev member : ℕ → List ℕ → Bool
member k ns = list_any (λ n. nat_eq n k) ns

-- ---- tests

same_by : (a b : Bool) → (a ≡ true → b ≡ true) → (b ≡ true → a ≡ true) → a ≡ b
same_by true true f g = refl
same_by true false f g = sym (f refl)
same_by false true f g = g refl
same_by false false f g = refl

and_yes : (x : Bool) → x ≡ (x && true)
and_yes true = refl
and_yes false = refl

and_turned : (x y : Bool) → (x && y) ≡ (y && x)
and_turned true true = refl
and_turned true false = refl
and_turned false true = refl
and_turned false false = refl

inner_first : (x y b : Bool) → (x && (y && b)) ≡ (y && (x && b))
inner_first true true b = refl
inner_first true false b = refl
inner_first false true b = refl
inner_first false false b = refl

or_step : (x y b : Bool) → ((x && b) || (y && b)) ≡ ((x || y) && b)
or_step true true true = refl
or_step true true false = refl
or_step true false true = refl
or_step true false false = refl
or_step false true true = refl
or_step false true false = refl
or_step false false true = refl
or_step false false false = refl

row_step : (x y m b : Bool) → ((m && (x && b)) || (y && (m && b))) ≡ ((x || y) && (m && b))
row_step true true true true = refl
row_step true true true false = refl
row_step true true false true = refl
row_step true true false false = refl
row_step true false true true = refl
row_step true false true false = refl
row_step true false false true = refl
row_step true false false false = refl
row_step false true true true = refl
row_step false true true false = refl
row_step false true false true = refl
row_step false true false false = refl
row_step false false true true = refl
row_step false false true false = refl
row_step false false false true = refl
row_step false false false false = refl

eq_turned : (a b : ℕ) → nat_eq a b ≡ true → nat_eq b a ≡ true
eq_turned a b e = eq-eqb b a (sym (eqb-true a b e))

-- ---- numbers in a row

member_from : (k first count : ℕ) → member k (numbers_from first count) ≡ (nat_le first k && nat_lt k (first + count))
member_from k first zero = grind (arith, nat_tests)
member_from k first (suc count) =
    let rest = member_from k (first + 1) count in
    ap (λ (b : Bool). nat_eq first k || b) rest ∙ joined k first count
  where
    joined : (k first count : ℕ) → (nat_eq first k || (nat_le (first + 1) k && nat_lt k (first + 1 + count))) ≡ (nat_le first k && nat_lt k (first + suc count))
    joined k first count = grind (arith, nat_tests)

member_below : (k count : ℕ) → member k (numbers_from 0 count) ≡ nat_lt k count
member_below k count = member_from k 0 count ∙ (let e : (nat_le 0 k && nat_lt k (0 + count)) ≡ nat_lt k count = grind (arith, nat_tests) in e)

member_within : (k count : ℕ) → member k (numbers_from 1 count) ≡ within 1 k count
member_within k count = member_from k 1 count ∙ (let e : (nat_le 1 k && nat_lt k (1 + count)) ≡ (nat_le 1 k && nat_le k count) = grind (arith, nat_tests) in e)

-- ---- slots made of numbers

among_map : (make : ℕ → Slot) (t : Slot) (k : ℕ) (b : Bool) → ((n : ℕ) → slot_eq (make n) t ≡ (nat_eq n k && b)) → (ns : List ℕ) → is_among t (map make ns) ≡ (member k ns && b)
among_map make t k b h [] = refl
among_map make t k b h (n ∷ ns) = ap₂ (λ (x y : Bool). x || y) (h n) (among_map make t k b h ns) ∙ or_step (nat_eq n k) (member k ns) b

among_none : (make : ℕ → Slot) (t : Slot) → ((n : ℕ) → slot_eq (make n) t ≡ false) → (ns : List ℕ) → is_among t (map make ns) ≡ false
among_none make t h [] = refl
among_none make t h (n ∷ ns) = or_from (slot_eq (make n) t) (is_among t (map make ns)) (h n) (among_none make t h ns)

among_rows : (make : ℕ → ℕ → Slot) (t : Slot) (w m : ℕ) (b : Bool) → ((v n : ℕ) → slot_eq (make v n) t ≡ (nat_eq v w && (nat_eq n m && b))) → (ns vs : List ℕ)
    → is_among t (flat_map (λ v. map (make v) ns) vs) ≡ (member w vs && (member m ns && b))
among_rows make t w m b h ns [] = refl
among_rows make t w m b h ns (v ∷ vs) =
    let row = among_map (make v) t m (nat_eq v w && b) (λ n. h v n ∙ inner_first (nat_eq v w) (nat_eq n m) b) ns in
    list_any-append (λ s. slot_eq s t) (map (make v) ns) (flat_map (λ v. map (make v) ns) vs)
    ∙ ap₂ (λ (x y : Bool). x || y) row (among_rows make t w m b h ns vs)
    ∙ row_step (nat_eq v w) (member w vs) (member m ns) b

no_rows : (make : ℕ → ℕ → Slot) (t : Slot) → ((v n : ℕ) → slot_eq (make v n) t ≡ false) → (ns vs : List ℕ) → is_among t (flat_map (λ v. map (make v) ns) vs) ≡ false
no_rows make t h ns [] = refl
no_rows make t h ns (v ∷ vs) =
    list_any-append (λ s. slot_eq s t) (map (make v) ns) (flat_map (λ v. map (make v) ns) vs)
    ∙ or_from (is_among t (map (make v) ns)) (is_among t (flat_map (λ v. map (make v) ns) vs)) (among_none (make v) t (h v) ns) (no_rows make t h ns vs)

-- ---- an agreement node's slots

four : (t : Slot) (a b c d : List Slot) (w x y z : Bool) → is_among t a ≡ w → is_among t b ≡ x → is_among t c ≡ y → is_among t d ≡ z → is_among t (a ++ b ++ c ++ d) ≡ (w || x || y || z)
four t a b c d w x y z e f g h =
    list_any-append (λ s. slot_eq s t) (a ++ b ++ c) d
    ∙ ap₂ (λ (p q : Bool). p || q) (list_any-append (λ s. slot_eq s t) (a ++ b) c ∙ ap₂ (λ (p q : Bool). p || q) (list_any-append (λ s. slot_eq s t) a b ∙ ap₂ (λ (p q : Bool). p || q) e f) g) h

vote_fits : (p : Params) (i v n j : ℕ) → nat_lt i (agreements p) ≡ true
    → (member v (numbers_from 0 p.views) && (member n (numbers_from 1 p.numbers) && nat_eq i j)) ≡ (nat_lt v p.views && within 1 n p.numbers && nat_lt j (agreements p) && nat_eq j i)
vote_fits p i v n j below =
    ap₂ (λ (x y : Bool). x && (y && nat_eq i j)) (member_below v p.views) (member_within n p.numbers)
    ∙ same_by _ _
    (λ h.
    let a = and_parts (nat_lt v p.views) (within 1 n p.numbers && nat_eq i j) h in
    let b = and_parts (within 1 n p.numbers) (nat_eq i j) a.1 in
    let small : nat_lt j (agreements p) ≡ true = ap (λ z. nat_lt z (agreements p)) (sym (eqb-true i j b.1)) ∙ below in
    and_from _ _ (and_from _ _ (and_from _ _ a.0 b.0) small) (eq_turned i j b.1))
    (λ h.
    let a = and_parts (nat_lt v p.views && within 1 n p.numbers && nat_lt j (agreements p)) (nat_eq j i) h in
    let b = and_parts (nat_lt v p.views && within 1 n p.numbers) (nat_lt j (agreements p)) a.0 in
    let c = and_parts (nat_lt v p.views) (within 1 n p.numbers) b.0 in
    and_from _ _ c.0 (and_from _ _ c.1 (eq_turned j i a.1)))

view_fits : (p : Params) (i v j : ℕ) → nat_lt i (agreements p) ≡ true → (member v (numbers_from 0 p.views) && nat_eq i j) ≡ (nat_lt v p.views && nat_lt j (agreements p) && nat_eq j i)
view_fits p i v j below =
    ap (λ (x : Bool). x && nat_eq i j) (member_below v p.views)
    ∙ same_by _ _
    (λ h.
    let a = and_parts (nat_lt v p.views) (nat_eq i j) h in
    let small : nat_lt j (agreements p) ≡ true = ap (λ z. nat_lt z (agreements p)) (sym (eqb-true i j a.1)) ∙ below in
    and_from _ _ (and_from _ _ a.0 small) (eq_turned i j a.1))
    (λ h.
    let a = and_parts (nat_lt v p.views && nat_lt j (agreements p)) (nat_eq j i) h in
    let b = and_parts (nat_lt v p.views) (nat_lt j (agreements p)) a.0 in
    and_from _ _ b.0 (eq_turned j i a.1))

-- one test among four
first_of : (x : Bool) → (x || false || false || false) ≡ x
first_of true = refl
first_of false = refl

second_of : (x : Bool) → (false || x || false || false) ≡ x
second_of true = refl
second_of false = refl

third_of : (x : Bool) → (false || false || x || false) ≡ x
third_of true = refl
third_of false = refl

in_agreement : (p : Params) (i : ℕ) (t : Slot) → nat_lt i (agreements p) ≡ true → is_among t (slots_of p (Agree i)) ≡ (slot_fits p t && is_own (Agree i) t)
in_agreement p i (Prepare v n j) below =
    four (Prepare v n j) (votes_of (λ v n. Prepare v n i) p) (votes_of (λ v n. Commit v n i) p) (map (λ v. Change v i) (numbers_from 0 p.views)) (map (λ v. NewView v i) (numbers_from 0 p.views)) (member v (numbers_from 0 p.views) && (member n (numbers_from 1 p.numbers) && nat_eq i j)) false false false
    (among_rows (λ v n. Prepare v n i) (Prepare v n j) v n (nat_eq i j) (λ w m. refl) (numbers_from 1 p.numbers) (numbers_from 0 p.views))
    (no_rows (λ v n. Commit v n i) (Prepare v n j) (λ v n. refl) (numbers_from 1 p.numbers) (numbers_from 0 p.views))
    (among_none (λ v. Change v i) (Prepare v n j) (λ v. refl) (numbers_from 0 p.views))
    (among_none (λ v. NewView v i) (Prepare v n j) (λ v. refl) (numbers_from 0 p.views))
    ∙ first_of (member v (numbers_from 0 p.views) && (member n (numbers_from 1 p.numbers) && nat_eq i j))
    ∙ vote_fits p i v n j below
in_agreement p i (Commit v n j) below =
    four (Commit v n j) (votes_of (λ v n. Prepare v n i) p) (votes_of (λ v n. Commit v n i) p) (map (λ v. Change v i) (numbers_from 0 p.views)) (map (λ v. NewView v i) (numbers_from 0 p.views)) false (member v (numbers_from 0 p.views) && (member n (numbers_from 1 p.numbers) && nat_eq i j)) false false
    (no_rows (λ v n. Prepare v n i) (Commit v n j) (λ v n. refl) (numbers_from 1 p.numbers) (numbers_from 0 p.views))
    (among_rows (λ v n. Commit v n i) (Commit v n j) v n (nat_eq i j) (λ w m. refl) (numbers_from 1 p.numbers) (numbers_from 0 p.views))
    (among_none (λ v. Change v i) (Commit v n j) (λ v. refl) (numbers_from 0 p.views))
    (among_none (λ v. NewView v i) (Commit v n j) (λ v. refl) (numbers_from 0 p.views))
    ∙ second_of (member v (numbers_from 0 p.views) && (member n (numbers_from 1 p.numbers) && nat_eq i j))
    ∙ vote_fits p i v n j below
in_agreement p i (Change v j) below =
    four (Change v j) (votes_of (λ v n. Prepare v n i) p) (votes_of (λ v n. Commit v n i) p) (map (λ v. Change v i) (numbers_from 0 p.views)) (map (λ v. NewView v i) (numbers_from 0 p.views)) false false (member v (numbers_from 0 p.views) && nat_eq i j) false
    (no_rows (λ v n. Prepare v n i) (Change v j) (λ v n. refl) (numbers_from 1 p.numbers) (numbers_from 0 p.views))
    (no_rows (λ v n. Commit v n i) (Change v j) (λ v n. refl) (numbers_from 1 p.numbers) (numbers_from 0 p.views))
    (among_map (λ v. Change v i) (Change v j) v (nat_eq i j) (λ w. refl) (numbers_from 0 p.views))
    (among_none (λ v. NewView v i) (Change v j) (λ v. refl) (numbers_from 0 p.views))
    ∙ third_of (member v (numbers_from 0 p.views) && nat_eq i j)
    ∙ view_fits p i v j below
in_agreement p i (NewView v j) below =
    four (NewView v j) (votes_of (λ v n. Prepare v n i) p) (votes_of (λ v n. Commit v n i) p) (map (λ v. Change v i) (numbers_from 0 p.views)) (map (λ v. NewView v i) (numbers_from 0 p.views)) false false false (member v (numbers_from 0 p.views) && nat_eq i j)
    (no_rows (λ v n. Prepare v n i) (NewView v j) (λ v n. refl) (numbers_from 1 p.numbers) (numbers_from 0 p.views))
    (no_rows (λ v n. Commit v n i) (NewView v j) (λ v n. refl) (numbers_from 1 p.numbers) (numbers_from 0 p.views))
    (among_none (λ v. Change v i) (NewView v j) (λ v. refl) (numbers_from 0 p.views))
    (among_map (λ v. NewView v i) (NewView v j) v (nat_eq i j) (λ w. refl) (numbers_from 0 p.views))
    ∙ view_fits p i v j below
in_agreement p i (Request d s) below =
    four (Request d s) (votes_of (λ v n. Prepare v n i) p) (votes_of (λ v n. Commit v n i) p) (map (λ v. Change v i) (numbers_from 0 p.views)) (map (λ v. NewView v i) (numbers_from 0 p.views)) false false false false
    (no_rows (λ v n. Prepare v n i) (Request d s) (λ v n. refl) (numbers_from 1 p.numbers) (numbers_from 0 p.views))
    (no_rows (λ v n. Commit v n i) (Request d s) (λ v n. refl) (numbers_from 1 p.numbers) (numbers_from 0 p.views))
    (among_none (λ v. Change v i) (Request d s) (λ v. refl) (numbers_from 0 p.views))
    (among_none (λ v. NewView v i) (Request d s) (λ v. refl) (numbers_from 0 p.views))
    ∙ sym (and_right (slot_fits p (Request d s)) (is_own (Agree i) (Request d s)) refl)
in_agreement p i (Reply n) below =
    four (Reply n) (votes_of (λ v n. Prepare v n i) p) (votes_of (λ v n. Commit v n i) p) (map (λ v. Change v i) (numbers_from 0 p.views)) (map (λ v. NewView v i) (numbers_from 0 p.views)) false false false false
    (no_rows (λ v n. Prepare v n i) (Reply n) (λ v n. refl) (numbers_from 1 p.numbers) (numbers_from 0 p.views))
    (no_rows (λ v n. Commit v n i) (Reply n) (λ v n. refl) (numbers_from 1 p.numbers) (numbers_from 0 p.views))
    (among_none (λ v. Change v i) (Reply n) (λ v. refl) (numbers_from 0 p.views))
    (among_none (λ v. NewView v i) (Reply n) (λ v. refl) (numbers_from 0 p.views))
    ∙ sym (and_right (slot_fits p (Reply n)) (is_own (Agree i) (Reply n)) refl)

-- ---- the others' slots

in_executor : (p : Params) (j : ℕ) (t : Slot) → is_among t (slots_of p (Exec j)) ≡ (slot_fits p t && is_own (Exec j) t)
in_executor p j (Prepare v n i) = among_none Reply (Prepare v n i) (λ n. refl) (numbers_from 1 p.numbers) ∙ sym (and_right (slot_fits p (Prepare v n i)) (is_own (Exec j) (Prepare v n i)) refl)
in_executor p j (Commit v n i) = among_none Reply (Commit v n i) (λ n. refl) (numbers_from 1 p.numbers) ∙ sym (and_right (slot_fits p (Commit v n i)) (is_own (Exec j) (Commit v n i)) refl)
in_executor p j (Change v i) = among_none Reply (Change v i) (λ n. refl) (numbers_from 1 p.numbers) ∙ sym (and_right (slot_fits p (Change v i)) (is_own (Exec j) (Change v i)) refl)
in_executor p j (NewView v i) = among_none Reply (NewView v i) (λ n. refl) (numbers_from 1 p.numbers) ∙ sym (and_right (slot_fits p (NewView v i)) (is_own (Exec j) (NewView v i)) refl)
in_executor p j (Request c s) = among_none Reply (Request c s) (λ n. refl) (numbers_from 1 p.numbers) ∙ sym (and_right (slot_fits p (Request c s)) (is_own (Exec j) (Request c s)) refl)
in_executor p j (Reply n) = among_map Reply (Reply n) n true (λ m. and_yes (nat_eq m n)) (numbers_from 1 p.numbers) ∙ ap (λ (x : Bool). x && true) (member_within n p.numbers)

stamp_fits : (p : Params) (c d s : ℕ) → nat_lt c p.clients ≡ true → (member s (numbers_from 1 p.stamps) && nat_eq c d) ≡ (nat_lt d p.clients && within 1 s p.stamps && nat_eq d c)
stamp_fits p c d s below =
    ap (λ (x : Bool). x && nat_eq c d) (member_within s p.stamps)
    ∙ same_by _ _
    (λ h.
    let a = and_parts (within 1 s p.stamps) (nat_eq c d) h in
    let small : nat_lt d p.clients ≡ true = ap (λ z. nat_lt z p.clients) (sym (eqb-true c d a.1)) ∙ below in
    and_from _ _ (and_from _ _ small a.0) (eq_turned c d a.1))
    (λ h.
    let a = and_parts (nat_lt d p.clients && within 1 s p.stamps) (nat_eq d c) h in
    let b = and_parts (nat_lt d p.clients) (within 1 s p.stamps) a.0 in
    and_from _ _ b.1 (eq_turned d c a.1))

in_client : (p : Params) (c : ℕ) (t : Slot) → nat_lt c p.clients ≡ true → is_among t (slots_of p (Client c)) ≡ (slot_fits p t && is_own (Client c) t)
in_client p c (Prepare v n i) below = among_none (Request c) (Prepare v n i) (λ n. refl) (numbers_from 1 p.stamps) ∙ sym (and_right (slot_fits p (Prepare v n i)) (is_own (Client c) (Prepare v n i)) refl)
in_client p c (Commit v n i) below = among_none (Request c) (Commit v n i) (λ n. refl) (numbers_from 1 p.stamps) ∙ sym (and_right (slot_fits p (Commit v n i)) (is_own (Client c) (Commit v n i)) refl)
in_client p c (Change v i) below = among_none (Request c) (Change v i) (λ n. refl) (numbers_from 1 p.stamps) ∙ sym (and_right (slot_fits p (Change v i)) (is_own (Client c) (Change v i)) refl)
in_client p c (NewView v i) below = among_none (Request c) (NewView v i) (λ n. refl) (numbers_from 1 p.stamps) ∙ sym (and_right (slot_fits p (NewView v i)) (is_own (Client c) (NewView v i)) refl)
in_client p c (Reply n) below = among_none (Request c) (Reply n) (λ n. refl) (numbers_from 1 p.stamps) ∙ sym (and_right (slot_fits p (Reply n)) (is_own (Client c) (Reply n)) refl)
in_client p c (Request d s) below = among_map (Request c) (Request d s) s (nat_eq c d) (λ m. and_turned (nat_eq c d) (nat_eq m s)) (numbers_from 1 p.stamps) ∙ stamp_fits p c d s below

in_filter : (p : Params) (r c : ℕ) (t : Slot) → false ≡ (slot_fits p t && is_own (Filter r c) t)
in_filter p r c (Prepare v n i) = sym (and_right (slot_fits p (Prepare v n i)) (is_own (Filter r c) (Prepare v n i)) refl)
in_filter p r c (Commit v n i) = sym (and_right (slot_fits p (Commit v n i)) (is_own (Filter r c) (Commit v n i)) refl)
in_filter p r c (Change v i) = sym (and_right (slot_fits p (Change v i)) (is_own (Filter r c) (Change v i)) refl)
in_filter p r c (NewView v i) = sym (and_right (slot_fits p (NewView v i)) (is_own (Filter r c) (NewView v i)) refl)
in_filter p r c (Request d s) = sym (and_right (slot_fits p (Request d s)) (is_own (Filter r c) (Request d s)) refl)
in_filter p r c (Reply n) = sym (and_right (slot_fits p (Reply n)) (is_own (Filter r c) (Reply n)) refl)

-- a seat has the slots of the deployment that are its own, and no others
pub own_slots : (p : Params) (seat : Seat) (t : Slot) → fits p seat ≡ true → is_among t (slots_of p seat) ≡ (slot_fits p t && is_own seat t)
own_slots p (Agree i) t h = in_agreement p i t h
own_slots p (Exec j) t h = in_executor p j t
own_slots p (Filter r c) t h = in_filter p r c t
own_slots p (Client c) t h = in_client p c t h

-- ---- values

three_same : (a b c d e f : ℕ) → (nat_eq a d && (nat_eq b e && nat_eq c f)) ≡ true → (a ≡ d) × (b ≡ e) × (c ≡ f)
three_same a b c d e f h =
    let x = and_parts (nat_eq a d) (nat_eq b e && nat_eq c f) h in
    let y = and_parts (nat_eq b e) (nat_eq c f) x.1 in
    (eqb-true a d x.0, eqb-true b e y.0, eqb-true c f y.1)

two_same : (a b c d : ℕ) → (nat_eq a c && nat_eq b d) ≡ true → (a ≡ c) × (b ≡ d)
two_same a b c d h = let x = and_parts (nat_eq a c) (nat_eq b d) h in (eqb-true a c x.0, eqb-true b d x.1)

pub same_slot : (s t : Slot) → slot_eq s t ≡ true → s ≡ t
same_slot (Prepare a b c) (Prepare d e f) h = let q = three_same a b c d e f h in let x = q.0 in let y = q.1 in let z = q.2 in cc
same_slot (Prepare a b c) (Commit d e f) h = cc
same_slot (Prepare a b c) (Change d e) h = cc
same_slot (Prepare a b c) (NewView d e) h = cc
same_slot (Prepare a b c) (Request d e) h = cc
same_slot (Prepare a b c) (Reply d) h = cc
same_slot (Commit a b c) (Prepare d e f) h = cc
same_slot (Commit a b c) (Commit d e f) h = let q = three_same a b c d e f h in let x = q.0 in let y = q.1 in let z = q.2 in cc
same_slot (Commit a b c) (Change d e) h = cc
same_slot (Commit a b c) (NewView d e) h = cc
same_slot (Commit a b c) (Request d e) h = cc
same_slot (Commit a b c) (Reply d) h = cc
same_slot (Change a b) (Prepare d e f) h = cc
same_slot (Change a b) (Commit d e f) h = cc
same_slot (Change a b) (Change c d) h = let q = two_same a b c d h in let x = q.0 in let y = q.1 in cc
same_slot (Change a b) (NewView d e) h = cc
same_slot (Change a b) (Request d e) h = cc
same_slot (Change a b) (Reply d) h = cc
same_slot (NewView a b) (Prepare d e f) h = cc
same_slot (NewView a b) (Commit d e f) h = cc
same_slot (NewView a b) (Change d e) h = cc
same_slot (NewView a b) (NewView c d) h = let q = two_same a b c d h in let x = q.0 in let y = q.1 in cc
same_slot (NewView a b) (Request d e) h = cc
same_slot (NewView a b) (Reply d) h = cc
same_slot (Request a b) (Prepare d e f) h = cc
same_slot (Request a b) (Commit d e f) h = cc
same_slot (Request a b) (Change d e) h = cc
same_slot (Request a b) (NewView d e) h = cc
same_slot (Request a b) (Request c d) h = let q = two_same a b c d h in let x = q.0 in let y = q.1 in cc
same_slot (Request a b) (Reply d) h = cc
same_slot (Reply a) (Prepare d e f) h = cc
same_slot (Reply a) (Commit d e f) h = cc
same_slot (Reply a) (Change d e) h = cc
same_slot (Reply a) (NewView d e) h = cc
same_slot (Reply a) (Request d e) h = cc
same_slot (Reply a) (Reply d) h = ap Reply (eqb-true a d h)

value_step : (x y r : Bool) (a b rest : Option (List ℕ)) → x ≡ y → (y ≡ true → a ≡ b) → rest ≡ (if r then b else None) → (if x then a else rest) ≡ (if (y || r) then b else None)
value_step true true r a b rest e f g = f refl
value_step true false r a b rest e f g = cc
value_step false true r a b rest e f g = cc
value_step false false r a b rest e f g = g

-- the values that are made for a list's slots
pub values_among : (make : Slot → Held) → ((s : Slot) → (make s).slot ≡ s) → (slots : List Slot) (t : Slot) → values_in (map make slots) t ≡ (if is_among t slots then Some (make t).values else None)
values_among make same [] t = refl
values_among make same (s ∷ slots) t =
    value_step (slot_eq (make s).slot t) (slot_eq s t) (is_among t slots) (Some (make s).values) (Some (make t).values) (values_in (map make slots) t)
    (ap (λ z. slot_eq z t) (same s)) (λ e. ap (λ z. Some (make z).values) (same_slot s t e)) (values_among make same slots t)

-- a hand that is made of its seat's slots has the values of each of them
pub own_values : (p : Params) (seat : Seat) (make : Slot → Held) (t : Slot) → fits p seat ≡ true → ((s : Slot) → (make s).slot ≡ s) → slot_fits p t ≡ true → is_own seat t ≡ true
    → values_in (map make (slots_of p seat)) t ≡ Some (make t).values
own_values p seat make t h same fit own =
    values_among make same (slots_of p seat) t ∙ ap (λ (b : Bool). if b then Some (make t).values else None) (own_slots p seat t h ∙ and_from (slot_fits p t) (is_own seat t) fit own)

-- and of no other
pub other_values : (p : Params) (seat : Seat) (make : Slot → Held) (t : Slot) → fits p seat ≡ true → ((s : Slot) → (make s).slot ≡ s) → (slot_fits p t && is_own seat t) ≡ false
    → values_in (map make (slots_of p seat)) t ≡ None
other_values p seat make t h same other =
    values_among make same (slots_of p seat) t ∙ ap (λ (b : Bool). if b then Some (make t).values else None) (own_slots p seat t h ∙ other)

same_number : (n : ℕ) → nat_eq n n ≡ true
same_number n = eq-eqb n n refl

itself : (s : Slot) → slot_eq s s ≡ true
itself (Prepare v n i) = and_from _ _ (same_number v) (and_from _ _ (same_number n) (same_number i))
itself (Commit v n i) = and_from _ _ (same_number v) (and_from _ _ (same_number n) (same_number i))
itself (Change v i) = and_from _ _ (same_number v) (same_number i)
itself (NewView v i) = and_from _ _ (same_number v) (same_number i)
itself (Request c s) = and_from _ _ (same_number c) (same_number s)
itself (Reply n) = same_number n

-- each slot of a list stands in it
pub among_at : (slots : List Slot) (k : ℕ) (d : Slot) → k < length slots → is_among (get_or slots k d) slots ≡ true
among_at [] k d inside = absurd (omega arith)
among_at (s ∷ slots) zero d inside = or_left (slot_eq s s) (is_among s slots) (itself s)
among_at (s ∷ slots) (suc k) d inside = or_right (slot_eq s (get_or slots k d)) (is_among (get_or slots k d) slots) (among_at slots k d (omega arith))

-- a seat has its slots' values at a point that they have
pub own_point : (p : Params) (seat : Seat) (t : Slot) → fits p seat ≡ true → is_own seat t ≡ true → point_of seat ≤ last_point p t
own_point p (Agree i) t f o = omega arith
own_point p (Filter r c) t f o = omega arith
own_point p (Client c) t f o = omega arith
own_point p (Exec j) (Reply n) f o = omega (arith, ltb-true j (executors p) f)
own_point p (Exec j) (Prepare v n i) f o = cc
own_point p (Exec j) (Commit v n i) f o = cc
own_point p (Exec j) (Change v i) f o = cc
own_point p (Exec j) (NewView v i) f o = cc
own_point p (Exec j) (Request c s) f o = cc

-- a slot of the seat's list is one of the deployment and the seat's own
pub own_at : (p : Params) (seat : Seat) (q : Params) (slots items : List Slot) (k : ℕ) (d : Slot) → q ≡ p → items ≡ slots → k < length items
    → ((slot : Slot) → is_among slot slots ≡ (slot_fits q slot && is_own seat slot)) → (slot_fits p (get_or items k d) ≡ true) × (is_own seat (get_or items k d) ≡ true)
own_at p seat q slots items k d same all inside own =
    and_parts (slot_fits p (get_or items k d)) (is_own seat (get_or items k d))
    (ap (λ r. slot_fits r (get_or items k d) && is_own seat (get_or items k d)) (sym same) ∙ sym (own (get_or items k d)) ∙ ap (is_among (get_or items k d)) (sym all) ∙ among_at items k d inside)
