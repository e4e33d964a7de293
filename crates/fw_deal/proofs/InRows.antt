-- The rows of a directory, one behind the other.
use Rattle.std.proofs.Common.{◌≡◌, ℕ, ◌+◌, ◌-◌, ◌*◌, ◌/◌, ◌%◌, ◌<◌, ◌≤◌, List, ◌++◌, length, take, drop, refl, sym, ap, ◌∙◌, arith, IsTrue, inl, inr, length-append, length-drop, take_all}
use Rattle.std.proofs.lemmas.List.{drop-drop, drop-take, take-take, drop-append-le, take-append-le, drop_at}
use Rattle.std.proofs.lemmas.Bool.{cases_lt}
use Rattle.sha2.proofs.Facts256.{length-sha256}
use Rattle.fw_base.specs.declared.slot.Slot.{Slot}
use Rattle.fw_base.specs.declared.slot.Place.{Place}
use Rattle.fw_base.specs.Places.{slot_fits, last_point, place_fits, row_index, place_index}
use Rattle.fw_base.specs.Sizes.{accepted}
use Rattle.fw_base.proofs.Placing.{same_slot, row_below, fitting}
use Rattle.fw_text.specs.Bits.{value_at}
use Rattle.fw_text.specs.Texts.{Text, hash, Value, text_bytes}
use Rattle.fw_lamport.specs.Signature.{place_at}
use Rattle.fw_secret.specs.Dealt.{Origin, dealt, slot_values}
use Rattle.fw_secret.proofs.Parts.{length-parts, part_at}
use Rattle.fw_secret.proofs.Secrets.{dealt_at}
use Rattle.fw_directory.specs.Directories.{rows}
use Rattle.fw_deal.specs.Deals.{IsDirectoryOf}
use Rattle.fw_deal.specs.Rows.{row_of, HasRows}

pub length-hash : (text : Text) → length (hash text) ≡ 32
unfolding hash
length-hash text = length-sha256 (text_bytes text)

pub length-row_of : (slot : Slot) (point : ℕ) (values : List ℕ) → length (row_of slot point values) ≡ 16384
unfolding row_of
length-row_of slot point values =
    length-parts (λ k. hash (Value (place_at slot point k) (value_at values k))) 0 512 (λ k. length-hash (Value (place_at slot point k) (value_at values k)))

-- a digest of a row
pub digest_in : (slot : Slot) (point : ℕ) (values : List ℕ) (k : ℕ) → k < 512 → value_at (row_of slot point values) k ≡ hash (Value (place_at slot point k) (value_at values k))
unfolding row_of
digest_in slot point values k below =
    let same : 0 + k ≡ k = omega arith in
    part_at (λ j. hash (Value (place_at slot point j) (value_at values j))) 0 512 k (λ j. length-hash (Value (place_at slot point j) (value_at values j))) below
    ∙ ap (λ (j : ℕ). hash (Value (place_at slot point j) (value_at values j))) same

-- a value by its row, and its place there
value_in_row : (xs : List ℕ) (row k : ℕ) → k < 512 → value_at xs (row * 512 + k) ≡ value_at (take 16384 (drop (16384 * row) xs)) k
value_in_row xs row k below =
    let place : 32 * (row * 512 + k) ≡ 16384 * row + 32 * k = omega arith in
    let rest : 32 * k + (16384 - 32 * k) ≡ 16384 = omega arith in
    let long : 32 ≤ 16384 - 32 * k = omega arith in
    let behind : List ℕ = drop (16384 * row) xs in
    ap (λ (n : ℕ). take 32 (drop n xs)) place
    ∙ ap (take 32) (sym (drop-drop (32 * k) (16384 * row) xs))
    ∙ sym (take-take 32 (16384 - 32 * k) (drop (32 * k) behind) long)
    ∙ ap (take 32) (sym (drop-take (32 * k) (16384 - 32 * k) behind) ∙ ap (λ (n : ℕ). drop (32 * k) (take n behind)) rest)

-- a row that is added keeps those before it, and is the last
row_kept : (xs ys : List ℕ) (row count : ℕ) → length xs ≡ 16384 * count → row < count → take 16384 (drop (16384 * row) (xs ++ ys)) ≡ take 16384 (drop (16384 * row) xs)
row_kept xs ys row count long below =
    ap (take 16384) (drop-append-le (16384 * row) xs ys (omega arith))
    ∙ take-append-le 16384 (drop (16384 * row) xs) ys (omega (arith, length-drop (16384 * row) xs))

row_added : (xs ys : List ℕ) (count : ℕ) → length xs ≡ 16384 * count → length ys ≡ 16384 → take 16384 (drop (16384 * count) (xs ++ ys)) ≡ ys
row_added xs ys count long whole = ap (take 16384) (drop_at xs ys (16384 * count) long) ∙ take_all 16384 ys (omega arith)

-- the digests with one row more
pub one_row_more : (o : Origin) (count : ℕ) (digests row : List ℕ) (slot : Slot) (point : ℕ) → HasRows o count digests → IsTrue (slot_fits o.params slot) → point ≤ last_point o.params slot → row_index o.params slot point ≡ count → row ≡ row_of slot point (slot_values o slot point) → HasRows o (count + 1) (digests ++ row)
one_row_more o count digests row slot point before fits at here is =
    let long : length row ≡ 16384 = ap length is ∙ length-row_of slot point (slot_values o slot point) in
    record {
      whole = omega (arith, before.whole, long, length-append digests row);
      each = λ s x fits2 at2 below. elim (cases_lt (row_index o.params s x) count) [
        | inl less ↦ row_kept digests row (row_index o.params s x) count before.whole less ∙ before.each s x fits2 at2 less
        | inr last ↦
            let place : row_index o.params s x ≡ count = omega arith in
            let same = same_slot o.params slot s point x fits fits2 at at2 (here ∙ sym place) in
            let moved : row_of slot point (slot_values o slot point) ≡ row_of s x (slot_values o s x) =
            ap (λ (t : Slot). row_of t point (slot_values o t point)) same.slot ∙ ap (λ (y : ℕ). row_of s y (slot_values o s y)) same.point in
            ap (λ (r : ℕ). take 16384 (drop (16384 * r) (digests ++ row))) place ∙ row_added digests row count before.whole long ∙ is ∙ moved
      ];
    }

-- a place with another bit and side
abbrev made : Place → ℕ → ℕ → Place
made place bit side = record { slot = place.slot; bit = bit; side = side; point = place.point }

-- a place by its place in the row
place_is : (place : Place) → place.side < 2 → place_at place.slot place.point (2 * place.bit + place.side) ≡ place
place_is place small =
    let bit : (2 * place.bit + place.side) / 2 ≡ place.bit = omega arith in
    let side : (2 * place.bit + place.side) % 2 ≡ place.side = omega arith in
    ap (λ (b : ℕ). made place b ((2 * place.bit + place.side) % 2)) bit ∙ ap (λ (s : ℕ). made place place.bit s) side

digest_is : (o : Origin) (digests : List ℕ) → HasRows o (rows o.params) digests → (place : Place) → IsTrue (place_fits o.params place) → value_at digests (place_index o.params place) ≡ hash (Value place (dealt o place))
digest_is o digests all place fits =
    let parts = fitting o.params place fits in
    let row : ℕ = row_index o.params place.slot place.point in
    let k : ℕ = 2 * place.bit + place.side in
    let values : List ℕ = slot_values o place.slot place.point in
    let below : k < 512 = omega (arith, parts.bit, parts.side) in
    let index : place_index o.params place ≡ row * 512 + k = omega arith in
    ap (value_at digests) index
    ∙ value_in_row digests row k below
    ∙ ap (λ (xs : List ℕ). value_at xs k) (all.each place.slot place.point parts.slot parts.point (row_below o.params place.slot place.point parts.slot parts.point))
    ∙ digest_in place.slot place.point values k below
    ∙ ap (λ (v : List ℕ). hash (Value (place_at place.slot place.point k) v)) (dealt_at o place.slot place.point k below)
    ∙ ap (λ (q : Place). hash (Value q (dealt o q))) (place_is place parts.side)

-- all rows are a directory
pub directory_of_rows : (o : Origin) (digests : List ℕ) → IsTrue (accepted o.params) → HasRows o (rows o.params) digests → IsDirectoryOf o (record { params = o.params; digests = digests })
directory_of_rows o digests sizes all = record {
  sizes = refl;
  whole = record { sizes = sizes; whole = all.whole };
  each = digest_is o digests all;
}
