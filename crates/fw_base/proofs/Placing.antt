-- Different places have different indexes.
use Rattle.std.proofs.Common.{ℕ, zero, suc, ◌+◌, ◌-◌, ◌*◌, ◌/◌, ◌<◌, ◌≤◌, ◌≡◌, ◌∙◌, refl, sym, ap, subst, arith, IsTrue, ◌&&◌, nat_lt, nat_le, inl, inr}
use Rattle.std.proofs.Math.Arith.{digits_lt}
use Rattle.std.proofs.Math.Nat.{mul-add-div_right, div-eq_of_lt}
use Rattle.std.proofs.lemmas.Bool.{eqb-false, ltb-true, ltb-false, leb-true, and_parts, cases_Bool}
use Rattle.fw_base.specs.declared.params.Params.{Params}
use Rattle.fw_base.specs.declared.slot.Slot.{Slot}
use Rattle.fw_base.specs.declared.slot.Slot.TheVariants as slots
use Rattle.fw_base.specs.declared.slot.Place.{Place}
use Rattle.fw_base.specs.Places.{slot_name, slot_fits, last_point, place_fits, row_index, place_index, votes}
use Rattle.fw_list.specs.Numbers.{within}
use Rattle.fw_base.specs.Sizes.{agreements, executors, keys}

-- a number in rows of a width is of one row and one column
pub one_row : (q r q2 r2 c : ℕ) → r < c → r2 < c → q * c + r ≡ q2 * c + r2 → (q ≡ q2) × (r ≡ r2)
one_row q r q2 r2 c small small2 e =
    let some : 0 < c = omega arith in
    let one : (q * c + r) / c ≡ q = mul-add-div_right some q r ∙ ap (λ z. q + z) (div-eq_of_lt small) ∙ (let none : q + 0 ≡ q = omega arith in none) in
    let other : (q2 * c + r2) / c ≡ q2 = mul-add-div_right some q2 r2 ∙ ap (λ z. q2 + z) (div-eq_of_lt small2) ∙ (let none : q2 + 0 ≡ q2 = omega arith in none) in
    let same : q ≡ q2 = sym one ∙ ap (λ z. z / c) e ∙ other in
    let moved : q2 * c + r ≡ q2 * c + r2 = ap (λ z. z * c + r) (sym same) ∙ e in
    (same, rest (q2 * c) r r2 moved)
  where
    rest : (a r r2 : ℕ) → a + r ≡ a + r2 → r ≡ r2
    rest a r r2 e = omega arith

-- what stands behind the same start is the same
pub behind : (a b c d e : ℕ) → a + b + c ≡ a + d + e → b + c ≡ d + e
behind a b c d e same = omega arith

-- where the rows of each kind of slot begin
abbrev start : Params → ℕ → ℕ
start p zero = 0
start p (suc zero) = 0
start p (suc (suc zero)) = votes p
start p (suc (suc (suc zero))) = 2 * votes p
start p (suc (suc (suc (suc zero)))) = 2 * votes p + p.views * agreements p
start p (suc (suc (suc (suc (suc zero))))) = 2 * votes p + 2 * (p.views * agreements p)
start p (suc (suc (suc (suc (suc (suc zero)))))) = keys p
start p (suc (suc (suc (suc (suc (suc (suc k))))))) = keys p + p.numbers * (executors p + 1)

twice_more : (a b : ℕ) → 2 * a + b ≤ 2 * a + 2 * b
twice_more a b = omega arith

grows : (p : Params) (k : ℕ) → start p k ≤ start p (suc k)
grows p zero = omega arith
grows p (suc zero) = omega arith
grows p (suc (suc zero)) = omega arith
grows p (suc (suc (suc zero))) = omega arith
grows p (suc (suc (suc (suc zero)))) = twice_more (votes p) (p.views * agreements p)
grows p (suc (suc (suc (suc (suc zero))))) = omega arith
grows p (suc (suc (suc (suc (suc (suc zero)))))) = omega arith
grows p (suc (suc (suc (suc (suc (suc (suc k))))))) = omega arith

later : (p : Params) (k d m : ℕ) → m ≡ d + k → start p k ≤ start p m
later p k zero m e = let same : k ≡ m = omega arith in subst (λ z. start p k ≤ start p z) same (omega arith)
later p k (suc d) m e =
    let next : suc (d + k) ≡ m = omega arith in
    subst (λ z. start p k ≤ start p z) next (omega (arith, later p k d (d + k) refl, grows p (d + k)))

-- the rows of a slot stand behind its start and before the next one
record Between (p : Params) (kind row : ℕ) : Type 0 where
  from : start p kind ≤ row
  before : row < start p (suc kind)

one_less : (n m : ℕ) → IsTrue (within 1 n m) → n - 1 < m
one_less n m fits = let both = and_parts (nat_le 1 n) (nat_le n m) fits in omega (arith, leb-true 1 n both.0, leb-true n m both.1)

-- a number below a size, behind a start
stands_at : (a b c size : ℕ) → b + c < size → (a ≤ a + b + c) × (a + b + c < a + size)
stands_at a b c size small = (omega arith, omega arith)

double : (a x : ℕ) → x < a + a → x < 2 * a
double a x small = omega arith

doubled : (a b x : ℕ) → x < 2 * a + b + b → x < 2 * a + 2 * b
doubled a b x small = omega arith

stands : (p : Params) (s : Slot) (point : ℕ) → IsTrue (slot_fits p s) → point ≤ last_point p s → Between p (slot_name s).kind (row_index p s point)
stands p (slots.Prepare v n i) point fits at =
    let one = and_parts (nat_lt v p.views && within 1 n p.numbers) (nat_lt i (agreements p)) fits in
    let two = and_parts (nat_lt v p.views) (within 1 n p.numbers) one.0 in
    let row : v * p.numbers + (n - 1) < p.views * p.numbers = digits_lt (ltb-true v p.views two.0) (one_less n p.numbers two.1) in
    record { from = omega arith; before = digits_lt row (ltb-true i (agreements p) one.1) }
stands p (slots.Commit v n i) point fits at =
    let one = and_parts (nat_lt v p.views && within 1 n p.numbers) (nat_lt i (agreements p)) fits in
    let two = and_parts (nat_lt v p.views) (within 1 n p.numbers) one.0 in
    let row : v * p.numbers + (n - 1) < p.views * p.numbers = digits_lt (ltb-true v p.views two.0) (one_less n p.numbers two.1) in
    let b = stands_at (votes p) ((v * p.numbers + (n - 1)) * agreements p) i (votes p) (digits_lt row (ltb-true i (agreements p) one.1)) in
    record { from = b.0; before = double (votes p) _ b.1 }
stands p (slots.Change v i) point fits at =
    let one = and_parts (nat_lt v p.views) (nat_lt i (agreements p)) fits in
    let b = stands_at (2 * votes p) (v * agreements p) i (p.views * agreements p) (digits_lt (ltb-true v p.views one.0) (ltb-true i (agreements p) one.1)) in
    record { from = b.0; before = b.1 }
stands p (slots.NewView v i) point fits at =
    let one = and_parts (nat_lt v p.views) (nat_lt i (agreements p)) fits in
    let b = stands_at (2 * votes p + p.views * agreements p) (v * agreements p) i (p.views * agreements p) (digits_lt (ltb-true v p.views one.0) (ltb-true i (agreements p) one.1)) in
    record { from = b.0; before = doubled (votes p) (p.views * agreements p) _ b.1 }
stands p (slots.Request c s) point fits at =
    let one = and_parts (nat_lt c p.clients) (within 1 s p.stamps) fits in
    let b = stands_at (2 * votes p + 2 * (p.views * agreements p)) (c * p.stamps) (s - 1) (p.clients * p.stamps) (digits_lt (ltb-true c p.clients one.0) (one_less s p.stamps one.1)) in
    record { from = b.0; before = b.1 }
stands p (slots.Reply n) point fits at =
    let b = stands_at (keys p) ((n - 1) * (executors p + 1)) point (p.numbers * (executors p + 1)) (digits_lt (one_less n p.numbers fits) (omega arith)) in
    record { from = b.0; before = b.1 }

-- slots of one row are of one kind
not_before : (p : Params) (j k row : ℕ) → j < k → Between p j row → Between p k row → ⊥
not_before p j k row less one other =
    let moved : start p (suc j) ≤ start p k = later p (suc j) (k - suc j) k (omega arith) in
    omega (arith, moved, one.before, other.from)

one_kind : (p : Params) (j k row : ℕ) → Between p j row → Between p k row → j ≡ k
one_kind p j k row one other = elim (cases_Bool (nat_lt j k)) [
  | inl less ↦ absurd (not_before p j k row (ltb-true j k less) one other)
  | inr other_way ↦ elim (cases_Bool (nat_lt k j)) [
    | inl more ↦ absurd (not_before p k j row (ltb-true k j more) other one)
    | inr neither ↦ omega (arith, ltb-false j k other_way, ltb-false k j neither)
  ]
]

-- a number from 1 on is known by what is before it
from_one : (n n2 m : ℕ) → IsTrue (within 1 n m) → IsTrue (within 1 n2 m) → n - 1 ≡ n2 - 1 → n ≡ n2
from_one n n2 m fits fits2 e = omega (arith, leb-true 1 n (and_parts (nat_le 1 n) (nat_le n m) fits).0, leb-true 1 n2 (and_parts (nat_le 1 n2) (nat_le n2 m) fits2).0)

-- a slot and a point are known by their row
pub record Same (s t : Slot) (x y : ℕ) : Type 0 where
  pub slot : s ≡ t
  pub point : x ≡ y

one_slot : (p : Params) (s t : Slot) (point point2 : ℕ) → IsTrue (slot_fits p s) → IsTrue (slot_fits p t) → point ≤ last_point p s → point2 ≤ last_point p t → (slot_name s).kind ≡ (slot_name t).kind → row_index p s point ≡ row_index p t point2 → Same s t point point2
one_slot p (slots.Prepare v n i) (slots.Prepare v2 n2 i2) point point2 fits fits2 at at2 kinds e =
    let one = and_parts (nat_lt v p.views && within 1 n p.numbers) (nat_lt i (agreements p)) fits in
    let other = and_parts (nat_lt v2 p.views && within 1 n2 p.numbers) (nat_lt i2 (agreements p)) fits2 in
    let number = (and_parts (nat_lt v p.views) (within 1 n p.numbers) one.0).1 in
    let number2 = (and_parts (nat_lt v2 p.views) (within 1 n2 p.numbers) other.0).1 in
    let row = one_row (v * p.numbers + (n - 1)) i (v2 * p.numbers + (n2 - 1)) i2 (agreements p) (ltb-true i (agreements p) one.1) (ltb-true i2 (agreements p) other.1) e in
    let view = one_row v (n - 1) v2 (n2 - 1) p.numbers (one_less n p.numbers number) (one_less n2 p.numbers number2) row.0 in
    let same : n ≡ n2 = from_one n n2 p.numbers number number2 view.1 in
    let view_same = view.0 in
    let agree = row.1 in
    record { slot = cc; point = omega arith }
one_slot p (slots.Prepare v n i) (slots.Commit v2 n2 i2) point point2 fits fits2 at at2 kinds e = absurd (eqb-false 1 2 refl kinds)
one_slot p (slots.Prepare v n i) (slots.Change v2 i2) point point2 fits fits2 at at2 kinds e = absurd (eqb-false 1 3 refl kinds)
one_slot p (slots.Prepare v n i) (slots.NewView v2 i2) point point2 fits fits2 at at2 kinds e = absurd (eqb-false 1 4 refl kinds)
one_slot p (slots.Prepare v n i) (slots.Request c2 s2) point point2 fits fits2 at at2 kinds e = absurd (eqb-false 1 5 refl kinds)
one_slot p (slots.Prepare v n i) (slots.Reply n2) point point2 fits fits2 at at2 kinds e = absurd (eqb-false 1 6 refl kinds)
one_slot p (slots.Commit v n i) (slots.Prepare v2 n2 i2) point point2 fits fits2 at at2 kinds e = absurd (eqb-false 2 1 refl kinds)
one_slot p (slots.Commit v n i) (slots.Commit v2 n2 i2) point point2 fits fits2 at at2 kinds e =
    let one = and_parts (nat_lt v p.views && within 1 n p.numbers) (nat_lt i (agreements p)) fits in
    let other = and_parts (nat_lt v2 p.views && within 1 n2 p.numbers) (nat_lt i2 (agreements p)) fits2 in
    let number = (and_parts (nat_lt v p.views) (within 1 n p.numbers) one.0).1 in
    let number2 = (and_parts (nat_lt v2 p.views) (within 1 n2 p.numbers) other.0).1 in
    let row = one_row (v * p.numbers + (n - 1)) i (v2 * p.numbers + (n2 - 1)) i2 (agreements p) (ltb-true i (agreements p) one.1) (ltb-true i2 (agreements p) other.1) (behind (votes p) ((v * p.numbers + (n - 1)) * agreements p) i ((v2 * p.numbers + (n2 - 1)) * agreements p) i2 e) in
    let view = one_row v (n - 1) v2 (n2 - 1) p.numbers (one_less n p.numbers number) (one_less n2 p.numbers number2) row.0 in
    let same : n ≡ n2 = from_one n n2 p.numbers number number2 view.1 in
    let view_same = view.0 in
    let agree = row.1 in
    record { slot = cc; point = omega arith }
one_slot p (slots.Commit v n i) (slots.Change v2 i2) point point2 fits fits2 at at2 kinds e = absurd (eqb-false 2 3 refl kinds)
one_slot p (slots.Commit v n i) (slots.NewView v2 i2) point point2 fits fits2 at at2 kinds e = absurd (eqb-false 2 4 refl kinds)
one_slot p (slots.Commit v n i) (slots.Request c2 s2) point point2 fits fits2 at at2 kinds e = absurd (eqb-false 2 5 refl kinds)
one_slot p (slots.Commit v n i) (slots.Reply n2) point point2 fits fits2 at at2 kinds e = absurd (eqb-false 2 6 refl kinds)
one_slot p (slots.Change v i) (slots.Prepare v2 n2 i2) point point2 fits fits2 at at2 kinds e = absurd (eqb-false 3 1 refl kinds)
one_slot p (slots.Change v i) (slots.Commit v2 n2 i2) point point2 fits fits2 at at2 kinds e = absurd (eqb-false 3 2 refl kinds)
one_slot p (slots.Change v i) (slots.Change v2 i2) point point2 fits fits2 at at2 kinds e =
    let one = and_parts (nat_lt v p.views) (nat_lt i (agreements p)) fits in
    let other = and_parts (nat_lt v2 p.views) (nat_lt i2 (agreements p)) fits2 in
    let row = one_row v i v2 i2 (agreements p) (ltb-true i (agreements p) one.1) (ltb-true i2 (agreements p) other.1) (behind (2 * votes p) (v * agreements p) i (v2 * agreements p) i2 e) in
    let view = row.0 in
    let agree = row.1 in
    record { slot = cc; point = omega arith }
one_slot p (slots.Change v i) (slots.NewView v2 i2) point point2 fits fits2 at at2 kinds e = absurd (eqb-false 3 4 refl kinds)
one_slot p (slots.Change v i) (slots.Request c2 s2) point point2 fits fits2 at at2 kinds e = absurd (eqb-false 3 5 refl kinds)
one_slot p (slots.Change v i) (slots.Reply n2) point point2 fits fits2 at at2 kinds e = absurd (eqb-false 3 6 refl kinds)
one_slot p (slots.NewView v i) (slots.Prepare v2 n2 i2) point point2 fits fits2 at at2 kinds e = absurd (eqb-false 4 1 refl kinds)
one_slot p (slots.NewView v i) (slots.Commit v2 n2 i2) point point2 fits fits2 at at2 kinds e = absurd (eqb-false 4 2 refl kinds)
one_slot p (slots.NewView v i) (slots.Change v2 i2) point point2 fits fits2 at at2 kinds e = absurd (eqb-false 4 3 refl kinds)
one_slot p (slots.NewView v i) (slots.NewView v2 i2) point point2 fits fits2 at at2 kinds e =
    let one = and_parts (nat_lt v p.views) (nat_lt i (agreements p)) fits in
    let other = and_parts (nat_lt v2 p.views) (nat_lt i2 (agreements p)) fits2 in
    let row = one_row v i v2 i2 (agreements p) (ltb-true i (agreements p) one.1) (ltb-true i2 (agreements p) other.1) (behind (2 * votes p + p.views * agreements p) (v * agreements p) i (v2 * agreements p) i2 e) in
    let view = row.0 in
    let agree = row.1 in
    record { slot = cc; point = omega arith }
one_slot p (slots.NewView v i) (slots.Request c2 s2) point point2 fits fits2 at at2 kinds e = absurd (eqb-false 4 5 refl kinds)
one_slot p (slots.NewView v i) (slots.Reply n2) point point2 fits fits2 at at2 kinds e = absurd (eqb-false 4 6 refl kinds)
one_slot p (slots.Request c s) (slots.Prepare v2 n2 i2) point point2 fits fits2 at at2 kinds e = absurd (eqb-false 5 1 refl kinds)
one_slot p (slots.Request c s) (slots.Commit v2 n2 i2) point point2 fits fits2 at at2 kinds e = absurd (eqb-false 5 2 refl kinds)
one_slot p (slots.Request c s) (slots.Change v2 i2) point point2 fits fits2 at at2 kinds e = absurd (eqb-false 5 3 refl kinds)
one_slot p (slots.Request c s) (slots.NewView v2 i2) point point2 fits fits2 at at2 kinds e = absurd (eqb-false 5 4 refl kinds)
one_slot p (slots.Request c s) (slots.Request c2 s2) point point2 fits fits2 at at2 kinds e =
    let one = and_parts (nat_lt c p.clients) (within 1 s p.stamps) fits in
    let other = and_parts (nat_lt c2 p.clients) (within 1 s2 p.stamps) fits2 in
    let row = one_row c (s - 1) c2 (s2 - 1) p.stamps (one_less s p.stamps one.1) (one_less s2 p.stamps other.1) (behind (2 * votes p + 2 * (p.views * agreements p)) (c * p.stamps) (s - 1) (c2 * p.stamps) (s2 - 1) e) in
    let client = row.0 in
    let stamp : s ≡ s2 = from_one s s2 p.stamps one.1 other.1 row.1 in
    record { slot = cc; point = omega arith }
one_slot p (slots.Request c s) (slots.Reply n2) point point2 fits fits2 at at2 kinds e = absurd (eqb-false 5 6 refl kinds)
one_slot p (slots.Reply n) (slots.Prepare v2 n2 i2) point point2 fits fits2 at at2 kinds e = absurd (eqb-false 6 1 refl kinds)
one_slot p (slots.Reply n) (slots.Commit v2 n2 i2) point point2 fits fits2 at at2 kinds e = absurd (eqb-false 6 2 refl kinds)
one_slot p (slots.Reply n) (slots.Change v2 i2) point point2 fits fits2 at at2 kinds e = absurd (eqb-false 6 3 refl kinds)
one_slot p (slots.Reply n) (slots.NewView v2 i2) point point2 fits fits2 at at2 kinds e = absurd (eqb-false 6 4 refl kinds)
one_slot p (slots.Reply n) (slots.Request c2 s2) point point2 fits fits2 at at2 kinds e = absurd (eqb-false 6 5 refl kinds)
one_slot p (slots.Reply n) (slots.Reply n2) point point2 fits fits2 at at2 kinds e =
    let row = one_row (n - 1) point (n2 - 1) point2 (executors p + 1) (omega arith) (omega arith) (behind (keys p) ((n - 1) * (executors p + 1)) point ((n2 - 1) * (executors p + 1)) point2 e) in
    let number : n ≡ n2 = from_one n n2 p.numbers fits fits2 row.0 in
    record { slot = cc; point = row.1 }

pub same_slot : (p : Params) (s t : Slot) (x y : ℕ) → IsTrue (slot_fits p s) → IsTrue (slot_fits p t) → x ≤ last_point p s → y ≤ last_point p t → row_index p s x ≡ row_index p t y → Same s t x y
same_slot p s t x y fits fits2 at at2 e =
    let there = subst (Between p (slot_name t).kind) (sym e) (stands p t y fits2 at2) in
    one_slot p s t x y fits fits2 at at2 (one_kind p (slot_name s).kind (slot_name t).kind (row_index p s x) (stands p s x fits at) there) e

last_kind : (s : Slot) → (slot_name s).kind ≤ 6
last_kind (slots.Prepare v n i) = omega arith
last_kind (slots.Commit v n i) = omega arith
last_kind (slots.Change v i) = omega arith
last_kind (slots.NewView v i) = omega arith
last_kind (slots.Request c s) = omega arith
last_kind (slots.Reply n) = omega arith

-- each slot at each of its points has one of the rows
pub row_below : (p : Params) (s : Slot) (point : ℕ) → IsTrue (slot_fits p s) → point ≤ last_point p s → row_index p s point < keys p + p.numbers * (executors p + 1)
row_below p s point fits at =
    let kind = (slot_name s).kind in
    let last = last_kind s in
    omega (arith, (stands p s point fits at).before, later p (suc kind) (6 - kind) 7 (omega (arith, last)))

-- a bit and a side are known by their place in a row
bits : (row bit side row2 bit2 side2 : ℕ) → bit < 256 → side < 2 → bit2 < 256 → side2 < 2 → row * 512 + 2 * bit + side ≡ row2 * 512 + 2 * bit2 + side2 → (row ≡ row2) × (bit ≡ bit2) × (side ≡ side2)
bits row bit side row2 bit2 side2 b s b2 s2 e = (omega arith, omega arith, omega arith)

abbrev made : Slot → ℕ → ℕ → ℕ → Place
made slot bit side point = record { slot = slot; bit = bit; side = side; point = point }

-- the parts of what a place needs
pub record Fitting (p : Params) (place : Place) : Type 0 where
  pub slot : IsTrue (slot_fits p place.slot)
  pub bit : place.bit < 256
  pub side : place.side < 2
  pub point : place.point ≤ last_point p place.slot

pub fitting : (p : Params) (place : Place) → IsTrue (place_fits p place) → Fitting p place
fitting p place fits =
    let last = and_parts (slot_fits p place.slot && nat_lt place.bit 256 && nat_lt place.side 2) (within 0 place.point (last_point p place.slot)) fits in
    let third = and_parts (slot_fits p place.slot && nat_lt place.bit 256) (nat_lt place.side 2) last.0 in
    let second = and_parts (slot_fits p place.slot) (nat_lt place.bit 256) third.0 in
    record {
      slot = second.0;
      bit = ltb-true place.bit 256 second.1;
      side = ltb-true place.side 2 third.1;
      point = leb-true place.point (last_point p place.slot) (and_parts (nat_le 0 place.point) (nat_le place.point (last_point p place.slot)) last.1).1;
    }

pub one_place : (p : Params) (a b : Place) → IsTrue (place_fits p a) → IsTrue (place_fits p b) → place_index p a ≡ place_index p b → a ≡ b
one_place p a b fits fits2 e =
    let one = fitting p a fits in
    let other = fitting p b fits2 in
    let parts = bits (row_index p a.slot a.point) a.bit a.side (row_index p b.slot b.point) b.bit b.side one.bit one.side other.bit other.side e in
    let same = same_slot p a.slot b.slot a.point b.point one.slot other.slot one.point other.point parts.0 in
    ap (λ s. made s a.bit a.side a.point) same.slot
    ∙ ap (λ x. made b.slot x a.side a.point) parts.1
    ∙ ap (λ x. made b.slot b.bit x a.point) parts.2
    ∙ ap (λ x. made b.slot b.bit b.side x) same.point
