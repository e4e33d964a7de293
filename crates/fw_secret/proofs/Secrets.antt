-- What is dealt for places and slots.
use Rattle.std.proofs.Common.{◌≡◌, ◌≢◌, ℕ, ◌+◌, ◌-◌, ◌*◌, ◌/◌, ◌%◌, ◌<◌, ◌≤◌, List, length, map, refl, sym, ap, ◌∙◌, arith, IsTrue, ◌&&◌, nat_lt}
use Rattle.std.proofs.lemmas.Bool.{ltb-true, and_parts}
use Rattle.std.specs.Prelude.{slice_index}
use Rattle.fw_list.specs.Lists.{numbers_from}
use Rattle.fw_base.specs.declared.slot.Slot.{Slot}
use Rattle.fw_base.specs.declared.slot.Slot.TheVariants as slots
use Rattle.fw_base.specs.declared.slot.Place.{Place}
use Rattle.fw_base.specs.Places.{slot_fits, place_fits, last_point, row_index, slot_index}
use Rattle.fw_base.specs.declared.params.Params.{Params}
use Rattle.fw_list.specs.Numbers.{within}
use Rattle.fw_text.specs.Bits.{value_at}
use Rattle.fw_lamport.specs.Signature.{place_at}
use Rattle.fw_shamir.specs.Polynomial.{eval}
use Rattle.fw_secret.specs.Streams.{words_from, chunk}
use Rattle.fw_secret.specs.Dealt.{Origin, coefficient, polynomial, reply_value, value_for, dealt, slot_values}
use Rattle.fw_secret.specs.Pieces.{bytes_of, value_of}
use Rattle.fw_secret.proofs.Ranges.{map_same, is_range}
use Rattle.fw_secret.proofs.Parts.{length-parts, part_at, parts_same}
use Rattle.fw_secret.proofs.Chunks.{chunk_behind, length-chunk, chunks_are_words, chunk_at}
use Rattle.std.proofs.lemmas.List.FromFn.{length-map-range_with_len}

-- the first coefficients of a reply are one piece, and its values those of the polynomials
pub reply_is : (o : Origin) (number bit side point first : ℕ) → first ≡ ((number - 1) * 512 + 2 * bit + side) * 4 → o.params.g ≤ 3 → value_of (words_from o.seed 2 (8 * first) 32) (o.params.g + 1) point ≡ reply_value o number bit side point
unfolding value_of reply_value
reply_is o number bit side point first is few =
    let piece : List ℕ = words_from o.seed 2 (8 * first) 32 in
    let one : (k : ℕ) → k < 0 + (o.params.g + 1) → value_at piece k ≡ coefficient o number bit side k =
    λ k below. chunk_at o.seed 2 first 4 k (omega arith) ∙ ap (λ (n : ℕ). chunk o.seed 2 (n + k)) is in
    let same : (j : ℕ) → bytes_of piece (o.params.g + 1) j ≡ polynomial o number bit side j =
    λ j. map_same (λ k. slice_index (value_at piece k) j) (λ k. slice_index (coefficient o number bit side k) j) 0 (o.params.g + 1) (λ k below. ap (λ (xs : List ℕ). slice_index xs j) (one k below)) in
    map_same (λ j. eval (bytes_of piece (o.params.g + 1) j) point) (λ j. eval (polynomial o number bit side j) point) 0 32 (λ j below. ap (λ (cs : List ℕ). eval cs point) (same j))

length-reply_value : (o : Origin) (number bit side point : ℕ) → length (reply_value o number bit side point) ≡ 32
unfolding reply_value
length-reply_value o number bit side point =
    let f : ℕ → ℕ = λ j. eval (polynomial o number bit side j) point in
    ap (λ (xs : List ℕ). length (map f xs)) (is_range 0 32) ∙ length-map-range_with_len f 0 32

length-value_for : (o : Origin) (slot : Slot) (bit side point : ℕ) → length (value_for o slot bit side point) ≡ 32
length-value_for o (slots.Prepare v n i) bit side point = length-chunk o.seed 1 (slot_index o.params (slots.Prepare v n i) * 512 + 2 * bit + side)
length-value_for o (slots.Commit v n i) bit side point = length-chunk o.seed 1 (slot_index o.params (slots.Commit v n i) * 512 + 2 * bit + side)
length-value_for o (slots.Change v i) bit side point = length-chunk o.seed 1 (slot_index o.params (slots.Change v i) * 512 + 2 * bit + side)
length-value_for o (slots.NewView v i) bit side point = length-chunk o.seed 1 (slot_index o.params (slots.NewView v i) * 512 + 2 * bit + side)
length-value_for o (slots.Request c s) bit side point = length-chunk o.seed 1 (slot_index o.params (slots.Request c s) * 512 + 2 * bit + side)
length-value_for o (slots.Reply n) bit side point = length-reply_value o n bit side point

pub length-dealt : (o : Origin) (place : Place) → length (dealt o place) ≡ 32
unfolding dealt
length-dealt o place = length-value_for o place.slot place.bit place.side place.point

pub length-slot_values : (o : Origin) (slot : Slot) (point : ℕ) → length (slot_values o slot point) ≡ 16384
unfolding slot_values
length-slot_values o slot point = length-parts (λ k. dealt o (place_at slot point k)) 0 512 (λ k. length-dealt o (place_at slot point k))

-- the values of a slot stand in the order of their places
pub dealt_at : (o : Origin) (slot : Slot) (point k : ℕ) → k < 512 → value_at (slot_values o slot point) k ≡ dealt o (place_at slot point k)
unfolding slot_values
dealt_at o slot point k below =
    let same : 0 + k ≡ k = omega arith in
    part_at (λ j. dealt o (place_at slot point j)) 0 512 k (λ j. length-dealt o (place_at slot point j)) below
    ∙ ap (λ (j : ℕ). dealt o (place_at slot point j)) same

-- a reply's value by its place in the row
pub reply_at : (o : Origin) (place : Place) (n : ℕ) → place.slot ≡ slots.Reply n → place.side < 2 → dealt o place ≡ reply_value o n ((2 * place.bit + place.side) / 2) ((2 * place.bit + place.side) % 2) place.point
unfolding dealt
reply_at o place n is small =
    let bit : place.bit ≡ (2 * place.bit + place.side) / 2 = omega arith in
    let side : place.side ≡ (2 * place.bit + place.side) % 2 = omega arith in
    ap (λ (slot : Slot). value_for o slot place.bit place.side place.point) is
    ∙ ap (λ (b : ℕ). reply_value o n b place.side place.point) bit
    ∙ ap (λ (s : ℕ). reply_value o n ((2 * place.bit + place.side) / 2) s place.point) side

pub reply_in_row : (o : Origin) (n point k : ℕ) → dealt o (place_at (slots.Reply n) point k) ≡ reply_value o n (k / 2) (k % 2) point
unfolding dealt
reply_in_row o n point k = refl

-- the side of a place that fits
pub side_of_place : (p : Params) (place : Place) → IsTrue (place_fits p place) → place.side < 2
side_of_place p place fits =
    let last = and_parts (slot_fits p place.slot && nat_lt place.bit 256 && nat_lt place.side 2) (within 0 place.point (last_point p place.slot)) fits in
    let third = and_parts (slot_fits p place.slot && nat_lt place.bit 256) (nat_lt place.side 2) last.0 in
    ltb-true place.side 2 third.1

-- the secrets of a slot other than a reply's are chunks of stream 1, at the indexes of their places
pub secret_is : (o : Origin) (slot : Slot) (bit side point : ℕ) → ((n : ℕ) → slot ≢ slots.Reply n) → value_for o slot bit side point ≡ chunk o.seed 1 (row_index o.params slot point * 512 + 2 * bit + side)
secret_is o (slots.Prepare v n i) bit side point other = refl
secret_is o (slots.Commit v n i) bit side point other = refl
secret_is o (slots.Change v i) bit side point other = refl
secret_is o (slots.NewView v i) bit side point other = refl
secret_is o (slots.Request c s) bit side point other = refl
secret_is o (slots.Reply n) bit side point other = absurd (other n refl)

-- and so are one piece
pub secrets_are : (o : Origin) (slot : Slot) (point first : ℕ) → ((n : ℕ) → slot ≢ slots.Reply n) → first ≡ row_index o.params slot point * 512 → words_from o.seed 1 (8 * first) 4096 ≡ slot_values o slot point
unfolding slot_values dealt
secrets_are o slot point first other is =
    let each : (k : ℕ) → chunk_behind o.seed 1 first k ≡ value_for o slot (k / 2) (k % 2) point =
    λ k. (let place : first + k ≡ row_index o.params slot point * 512 + 2 * (k / 2) + k % 2 = omega arith in
    ap (chunk o.seed 1) place ∙ sym (secret_is o slot (k / 2) (k % 2) point other)) in
    sym (chunks_are_words o.seed 1 first 512) ∙ parts_same (chunk_behind o.seed 1 first) (λ k. value_for o slot (k / 2) (k % 2) point) (numbers_from 0 512) each
