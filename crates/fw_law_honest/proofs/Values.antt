-- The values of a reply: what an executor signs is the deal's polynomials at its point, and any g + 1 points give the secrets.
use Rattle.std.proofs.Common.{ℕ, zero, suc, ◌+◌, ◌-◌, ◌*◌, ◌/◌, ◌%◌, ◌<◌, ◌≡◌, true, List, [], ◌∷◌, ◌++◌, map, length, get_or, drop, Option, Some, refl, sym, ◌∙◌, ap, arith}
use Rattle.std.specs.Prelude.{slice_index}
use Rattle.std.specs.List.{flat_map}
use Rattle.std.specs.Int.{w32, to_le_bytes}
use Rattle.std.proofs.lemmas.List.{get_or-drop, get_or-take, length-map}
use Rattle.rand_chacha.specs.ChaCha.{word_at, key_of}
use Rattle.fw_list.specs.Lists.{numbers_from}
use Rattle.fw_base.specs.declared.seat.Seat.TheVariants as seats
use Rattle.fw_base.specs.declared.slot.Slot.TheVariants as slots
use Rattle.fw_base.specs.Seats.{fits}
use Rattle.fw_base.specs.Places.{slot_fits}
use Rattle.fw_text.specs.Bits.{bit_of, value_at}
use Rattle.fw_lamport.specs.Signature.{side_of}
use Rattle.fw_shamir.specs.Polynomial.{eval, AreBytes, Passes, places_of, AreDistinct}
use Rattle.fw_shamir.proofs.Newton.{AtFit, interpolates}
use Rattle.fw_secret.specs.Streams.{words_from}
use Rattle.fw_secret.specs.Dealt.{Origin, coefficient, polynomial, reply_value, dealt, slot_values}
use Rattle.fw_secret.proofs.Ranges.{written}
use Rattle.fw_secret.proofs.Parts.{length-parts, part_at}
use Rattle.fw_secret.proofs.Secrets.{dealt_at, reply_in_row}
use Rattle.fw_hand.specs.Hands.{values_in}
use Rattle.fw_hand.proofs.OwnSlots.{own_values}
use Rattle.fw_deal.specs.Deals.{PlainDeal, hand_of, held_of}
use Rattle.fw_deal.proofs.Ranges.{length_mapped, mapped_at}
use Rattle.fw_ref.specs.Certificates.{secrets_for}
use Rattle.fw_means.specs.Means.{value_of_bit, signed_by, point_in, joined_byte, joined_values}

-- the values of a reply on the sides of a digest, at a point
abbrev pub value_on : Origin → ℕ → List ℕ → ℕ → ℕ → List ℕ
value_on o n digest point b = reply_value o n b (bit_of digest b) point

pub values_on : Origin → ℕ → List ℕ → ℕ → List ℕ
values_on o n digest point = flat_map (value_on o n digest point) (numbers_from 0 256)

flat_same : (f g : ℕ → List ℕ) (first count : ℕ) → ((b : ℕ) → b < first + count → f b ≡ g b) → flat_map f (numbers_from first count) ≡ flat_map g (numbers_from first count)
flat_same f g first zero same = refl
flat_same f g first (suc count) same =
    ap (λ (xs : List ℕ). xs ++ flat_map f (numbers_from (first + 1) count)) (same first (omega arith))
    ∙ ap (λ (xs : List ℕ). g first ++ xs) (flat_same f g (first + 1) count (λ b below. same b (omega arith)))

bit_small : (n : ℕ) → n % 2 < 2
bit_small n = omega arith

half : (b side : ℕ) → side < 2 → (2 * b + side) / 2 ≡ b
half b side small = omega arith

rest : (b side : ℕ) → side < 2 → (2 * b + side) % 2 ≡ side
rest b side small = omega arith

-- ---- what an executor signs

value_there : (o : Origin) (n point : ℕ) (digest : List ℕ) (b : ℕ) → b < 256 → value_at (slot_values o (slots.Reply n) point) (side_of digest b) ≡ value_on o n digest point b
value_there o n point digest b below =
    let small : bit_of digest b < 2 = bit_small _ in
    dealt_at o (slots.Reply n) point (side_of digest b) (omega arith)
    ∙ reply_in_row o n point (side_of digest b)
    ∙ ap (λ (x : ℕ). reply_value o n x (side_of digest b % 2) point) (half b (bit_of digest b) small)
    ∙ ap (λ (x : ℕ). reply_value o n b x point) (rest b (bit_of digest b) small)

pub signed-values : (deal : PlainDeal) (j n : ℕ) (digest : List ℕ) → fits deal.origin.params (seats.Exec j) ≡ true → slot_fits deal.origin.params (slots.Reply n) ≡ true
    → signed_by (hand_of deal (seats.Exec j)) (slots.Reply n) digest ≡ values_on deal.origin n digest (j + 1)
unfolding signed_by values_on
signed-values deal j n digest fit number =
    let o = deal.origin in
    let found : values_in (hand_of deal (seats.Exec j)).held (slots.Reply n) ≡ Some (slot_values o (slots.Reply n) (j + 1)) =
    own_values o.params (seats.Exec j) (held_of o (seats.Exec j)) (slots.Reply n) fit (λ s. refl) number refl in
    ap (λ (values : Option (List ℕ)). flat_map (value_of_bit values digest) (numbers_from 0 256)) found
    ∙ flat_same (value_of_bit (Some (slot_values o (slots.Reply n) (j + 1))) digest) (value_on o n digest (j + 1)) 0 256 (λ b below. value_there o n (j + 1) digest b (omega arith))

pub secrets-values : (o : Origin) (n : ℕ) (digest : List ℕ) → secrets_for o n digest ≡ values_on o n digest 0
unfolding secrets_for values_on dealt
secrets-values o n digest = refl

-- ---- byte by byte

length-value_on : (o : Origin) (n : ℕ) (digest : List ℕ) (point b : ℕ) → length (value_on o n digest point b) ≡ 32
unfolding reply_value
length-value_on o n digest point b = length_mapped (λ j. eval (polynomial o n b (bit_of digest b) j) point) 32

pub length-values_on : (o : Origin) (n : ℕ) (digest : List ℕ) (point : ℕ) → length (values_on o n digest point) ≡ 8192
unfolding values_on
length-values_on o n digest point = length-parts (value_on o n digest point) 0 256 (length-value_on o n digest point)

-- the polynomial of byte k
abbrev byte_polynomial : Origin → ℕ → List ℕ → ℕ → List ℕ
byte_polynomial o n digest k = polynomial o n (k / 32) (bit_of digest (k / 32)) (k % 32)

byte-value : (o : Origin) (n : ℕ) (digest : List ℕ) (point k : ℕ) → k < 8192 → get_or (values_on o n digest point) k 0 ≡ eval (byte_polynomial o n digest k) point
unfolding values_on reply_value
byte-value o n digest point k below =
    let b = k / 32 in
    let j = k % 32 in
    let all = values_on o n digest point in
    let place : k ≡ 32 * b + j = omega arith in
    let start : 0 + b ≡ b = omega arith in
    ap (λ (i : ℕ). get_or all i 0) place
    ∙ sym (get_or-drop (32 * b) all j 0)
    ∙ sym (get_or-take 32 (drop (32 * b) all) j 0 (omega arith))
    ∙ ap (λ (xs : List ℕ). get_or xs j 0) (part_at (value_on o n digest point) 0 256 b (length-value_on o n digest point) (omega arith) ∙ ap (value_on o n digest point) start)
    ∙ mapped_at (λ i. eval (polynomial o n b (bit_of digest b) i) point) 32 j 0 (omega arith)

-- ---- coefficients are bytes

word-bytes : (x i : ℕ) → get_or (to_le_bytes w32 x) i 0 < 256
word-bytes x zero = omega arith
word-bytes x (suc zero) = omega arith
word-bytes x (suc (suc zero)) = omega arith
word-bytes x (suc (suc (suc zero))) = omega arith
word-bytes x (suc (suc (suc (suc i)))) = omega arith

append-bytes : (xs ys : List ℕ) (i : ℕ) → ((k : ℕ) → get_or xs k 0 < 256) → ((k : ℕ) → get_or ys k 0 < 256) → get_or (xs ++ ys) i 0 < 256
append-bytes [] ys i xb yb = yb i
append-bytes (x ∷ xs) ys zero xb yb = xb 0
append-bytes (x ∷ xs) ys (suc i) xb yb = append-bytes xs ys i (λ k. xb (suc k)) yb

words-bytes : (seed : List ℕ) (stream place n i : ℕ) → get_or (words_from seed stream place n) i 0 < 256
unfolding words_from
words-bytes seed stream place zero i = omega arith
words-bytes seed stream place (suc n) i =
    append-bytes (words_from seed stream place n) (to_le_bytes w32 (word_at 10 (key_of seed) stream (place + n))) i
    (words-bytes seed stream place n) (word-bytes (word_at 10 (key_of seed) stream (place + n)))

mapped-bytes : (f : ℕ → ℕ) (xs : List ℕ) → ((k : ℕ) → f k < 256) → AreBytes (map f xs)
mapped-bytes f [] each = tt
mapped-bytes f (x ∷ xs) each = (each x, mapped-bytes f xs each)

polynomial-bytes : (o : Origin) (n bit side j : ℕ) → AreBytes (polynomial o n bit side j)
polynomial-bytes o n bit side j =
    mapped-bytes (λ k. slice_index (coefficient o n bit side k) j) (numbers_from 0 (o.params.g + 1)) (λ k. words-bytes o.seed 2 (8 * (((n - 1) * 512 + 2 * bit + side) * 4 + k)) 8 j)

-- ---- the values of g + 1 points

-- each share has the values of its point, which is a byte
abbrev pub AreValues : Origin → ℕ → List ℕ → List (ℕ × List ℕ) → Type 0
AreValues o n digest [] = Unit {0}
AreValues o n digest (s ∷ ss) = ((s.0 < 256) × (s.1 ≡ values_on o n digest s.0)) × AreValues o n digest ss

points-at : (k : ℕ) (ss : List (ℕ × List ℕ)) → places_of (map (point_in k) ss) ≡ map (λ s. s.0) ss
points-at k [] = refl
points-at k (s ∷ ss) = ap (λ (xs : List ℕ). s.0 ∷ xs) (points-at k ss)

points-fit : (o : Origin) (n : ℕ) (digest : List ℕ) (k : ℕ) (ss : List (ℕ × List ℕ)) → AreValues o n digest ss → AtFit (map (point_in k) ss)
points-fit o n digest k [] all = tt
points-fit o n digest k (s ∷ ss) all = (all.0.0, points-fit o n digest k ss all.1)

points-pass : (o : Origin) (n : ℕ) (digest : List ℕ) (k : ℕ) → k < 8192 → (ss : List (ℕ × List ℕ)) → AreValues o n digest ss → Passes (byte_polynomial o n digest k) (map (point_in k) ss)
points-pass o n digest k below [] all = tt
points-pass o n digest k below (s ∷ ss) all =
    (sym (byte-value o n digest s.0 k below) ∙ ap (λ (xs : List ℕ). get_or xs k 0) (sym all.0.1), points-pass o n digest k below ss all.1)

byte-joined : (o : Origin) (n : ℕ) (digest : List ℕ) (ss : List (ℕ × List ℕ)) (k : ℕ) → k < 8192 → length ss ≡ o.params.g + 1 → AreDistinct (map (λ s. s.0) ss) → AreValues o n digest ss
    → get_or (values_on o n digest 0) k 0 ≡ joined_byte ss k
byte-joined o n digest ss k below count apart all =
    let cs = byte_polynomial o n digest k in
    let f : ℕ → ℕ = λ i. slice_index (coefficient o n (k / 32) (bit_of digest (k / 32)) i) (k % 32) in
    let long : length cs ≡ o.params.g + 1 = length_mapped f (o.params.g + 1) in
    byte-value o n digest 0 k below
    ∙ sym (interpolates (length ss) 0 cs (map (point_in k) ss) (length-map ss (point_in k)) (omega (arith, long, count))
    (polynomial-bytes o n (k / 32) (bit_of digest (k / 32)) (k % 32)) (points-fit o n digest k ss all) (rw (points-at k ss) apart) (points-pass o n digest k below ss all))

pub joined-values : (o : Origin) (n : ℕ) (digest : List ℕ) (ss : List (ℕ × List ℕ)) → length ss ≡ o.params.g + 1 → AreDistinct (map (λ s. s.0) ss) → AreValues o n digest ss
    → joined_values ss ≡ secrets_for o n digest
unfolding joined_values
joined-values o n digest ss count apart all =
    sym (written (joined_byte ss) (values_on o n digest 0) 8192 (length-values_on o n digest 0) (λ k below. byte-joined o n digest ss k below count apart all))
    ∙ sym (secrets-values o n digest)
