-- The means and the bodies of a hand in a directory are such, and what they write is read back.
use Rattle.std.proofs.Common.{ℕ, zero, suc, ◌+◌, ◌-◌, ◌*◌, ◌<◌, ◌≤◌, ◌≡◌, inl, inr, true, false, nat_eq, List, [], ◌∷◌, ◌++◌, length, map, drop, Option, Some, None, IsTrue, arith, refl, sym, ◌∙◌, ap, subst, All, length-append, bit_xor}
use Rattle.std.specs.Prelude.{replicate}
use Rattle.std.specs.List.{flat_map, zip}
use Rattle.std.specs.Int.{w16, to_be_bytes}
use Rattle.std.proofs.lemmas.Bool.{cases_Bool, eq-eqb}
use Rattle.std.proofs.lemmas.List.{length-map, length-take, length-drop, length-replicate}
use Rattle.std.proofs.lemmas.List.Elements.{All-nil, All-cons, All-head, All-tail}
use Rattle.std.proofs.lemmas.Slice.Zip.{length-zip}
use Rattle.sha2.proofs.Facts256.{length-sha256}
use Rattle.fw_list.specs.declared.limits.TheConstants.{BODY_LEN, SIGNATURE_LEN, ROW_LEN, LONGEST_TEXT}
use Rattle.fw_list.specs.Lists.{numbers_from}
use Rattle.fw_base.specs.declared.params.Params.{Params}
use Rattle.fw_base.specs.declared.slot.Slot.{Slot}
use Rattle.fw_base.specs.Places.{slot_fits}
use Rattle.fw_base.specs.Sizes.{accepted}
use Rattle.fw_text.specs.Bits.{value_at}
use Rattle.fw_text.specs.Texts.{hash}
use Rattle.fw_lamport.specs.Signature.{side_of}
use Rattle.fw_seal.specs.declared.types.BodyKey.{BodyKey}
use Rattle.fw_seal.specs.declared.types.Direction.{Direction}
use Rattle.fw_seal.specs.Seal.{stream_of, stream_bytes, masked, block_of, tag_of, sealed}
use Rattle.fw_seal.proofs.Words.{length-stream_bytes}
use Rattle.fw_trace.specs.Lists.{In}
use Rattle.fw_frame.specs.Frames.{PlainFrame}
use Rattle.fw_frame.specs.Ranges.{frame_fits}
use Rattle.fw_frame.specs.Spelling.{frame_bytes}
use Rattle.fw_frame.specs.View.{Frame, viewed, plain_of}
use Rattle.fw_frame.proofs.View.{plain_of-viewed}
use Rattle.fw_frame.proofs.Undoing.{frame_in-each}
use Rattle.fw_directory.specs.Directories.{PlainDirectory}
use Rattle.fw_hand.specs.declared.hand.Held.{Held}
use Rattle.fw_hand.specs.declared.hand.HeldKey.{HeldKey}
use Rattle.fw_hand.specs.Hands.{PlainHand, IsListed, IsHandIn, is_own, clients_of, point_of, values_in, key_in}
use Rattle.fw_means.specs.Means.{value_of_bit, signed_by, joined_values, joined_byte, valid_in, written, sealed_by}
use Rattle.fw_means.proofs.Hands.{has-own}
use Rattle.fw_means.proofs.Signing.{values_whole}
use Rattle.fw_deal.proofs.InRows.{length-hash}
use Rattle.fw_deal.proofs.Ranges.{length_mapped}
use Rattle.fw_lengths.proofs.Admitted.{valid-shows}
use Rattle.fw_rules.specs.Deployed.{means_of, bodies_of}
use Rattle.fw_law_frames.specs.Plain.{IsPlain, MakesPlain, SealsWhole}
use Rattle.fw_law_frames.specs.Sent.{ReadsBack}

-- ---- what is read

read_plain : (d : PlainDirectory) (bytes : List ℕ) (v : Frame) → valid_in d bytes ≡ Some v → IsPlain d.params v
read_plain d bytes v e =
    let shown = valid-shows d bytes v e in
    let back = plain_of-viewed d.params shown.frame shown.fits in
    subst (IsPlain d.params) shown.seen (record { fits = subst (λ (f : PlainFrame). IsTrue (frame_fits d.params f)) (sym back) shown.fits; seen = ap viewed back })

-- what is written is read back
pub reads_back : (p : Params) → IsTrue (accepted p) → (bytes : List ℕ) (v : Frame) → bytes ≡ written v → IsPlain p v → ReadsBack p bytes
reads_back p ok bytes v spelled plain = record {
  frame = v;
  is = record { spelled = spelled; plain = plain; back = frame_in-each p ok bytes (plain_of v) (record { spelled = spelled; fits = plain.fits }) };
}

-- what is read is what was written
pub spelled_again : (d : PlainDirectory) (bytes : List ℕ) (v : Frame) → valid_in d bytes ≡ Some v → bytes ≡ written v
spelled_again d bytes v e =
    let shown = valid-shows d bytes v e in
    shown.spelled ∙ ap frame_bytes (sym (plain_of-viewed d.params shown.frame shown.fits)) ∙ ap written shown.seen

-- so what was admitted is read back
pub admitted_back : (d : PlainDirectory) → IsTrue (accepted d.params) → (bytes : List ℕ) (v : Frame) → valid_in d bytes ≡ Some v → ReadsBack d.params bytes
admitted_back d ok bytes v e = reads_back d.params ok bytes v (spelled_again d bytes v e) (read_plain d bytes v e)

-- ---- what is signed

side_below : (digest : List ℕ) (b : ℕ) → b < 256 → side_of digest b < 512
side_below digest b below = omega arith

value_whole : (values : List ℕ) (n : ℕ) → length values ≡ ROW_LEN → n < 512 → length (value_at values n) ≡ 32
value_whole values n long below =
    let rest = length-drop (32 * n) values in
    let part = length-take 32 (drop (32 * n) values) in
    omega (arith, rest, part, long)

values_long : (f : ℕ → List ℕ) (first count : ℕ) → ((b : ℕ) → b < first + count → length (f b) ≡ 32) → length (flat_map f (numbers_from first count)) ≡ 32 * count
values_long f first zero each = refl
values_long f first (suc count) each =
    let one = each first (omega arith) in
    let more = values_long f (first + 1) count (λ b below. each b (omega (arith, below))) in
    let parts = length-append (f first) (flat_map f (numbers_from (first + 1) count)) in
    omega (arith, one, more, parts)

signed_long : (hand : PlainHand) (slot : Slot) (digest values : List ℕ) → values_in hand.held slot ≡ Some values → length values ≡ ROW_LEN → length (signed_by hand slot digest) ≡ SIGNATURE_LEN
unfolding signed_by
signed_long hand slot digest values found long =
    ap (λ (o : Option (List ℕ)). length (flat_map (value_of_bit o digest) (numbers_from 0 256))) found
    ∙ values_long (value_of_bit (Some values) digest) 0 256 (λ b below. value_whole values (side_of digest b) long (side_below digest b below))

held_whole : (d : PlainDirectory) (point : ℕ) (held : List Held) → All (IsListed d point) held → All (λ (one : Held). length one.values ≡ ROW_LEN) held
held_whole d point [] all = All-nil _
held_whole d point (one ∷ held) all =
    All-cons (λ (h : Held). length h.values ≡ ROW_LEN) one held (All-head (IsListed d point) one held all).whole (held_whole d point held (All-tail (IsListed d point) one held all))

signs_whole : (d : PlainDirectory) (hand : PlainHand) → IsHandIn d hand → (slot : Slot) (digest : List ℕ) → IsTrue (slot_fits d.params slot) → IsTrue (is_own hand.seat slot) → length (signed_by hand slot digest) ≡ SIGNATURE_LEN
signs_whole d hand k slot digest fit mine = by (values_in hand.held slot) refl
  where
    by : (o : Option (List ℕ)) → values_in hand.held slot ≡ o → length (signed_by hand slot digest) ≡ SIGNATURE_LEN
    by None e = absurd (has-own d.params hand.seat slot hand.held k.seat fit mine k.slots e)
    by (Some values) e = signed_long hand slot digest values e (values_whole hand.held slot values (held_whole d (point_of hand.seat) hand.held k.listed) e)

joined_whole : (shares : List (ℕ × List ℕ)) → length (joined_values shares) ≡ SIGNATURE_LEN
unfolding joined_values
joined_whole shares = length_mapped (joined_byte shares) SIGNATURE_LEN

pub makes_plain : (d : PlainDirectory) (hand : PlainHand) → IsHandIn d hand → MakesPlain (means_of d hand) hand.seat
makes_plain d hand k = record {
  hashes = length-hash;
  signs = λ slot point text fit mine. signs_whole d hand k slot (hash text) fit mine;
  joins = joined_whole;
  reads = read_plain d;
}

-- ---- bodies

block_long : (text : List ℕ) → 512 ≤ length (block_of text)
unfolding block_of
block_long text =
    let two : length (to_be_bytes w16 (length text)) ≡ 2 = refl in
    let zeros = length-replicate {A = ℕ} (LONGEST_TEXT - length text) 0 in
    let front = length-append (to_be_bytes w16 (length text)) (text ++ replicate (LONGEST_TEXT - length text) 0) in
    let rest = length-append text (replicate (LONGEST_TEXT - length text) 0) in
    omega (arith, two, zeros, front, rest)

masked_long : (key : BodyKey) (way : Direction) (number : ℕ) (block : List ℕ) → 512 ≤ length block → length (masked key way number block) ≡ 512
unfolding masked
masked_long key way number block long =
    let stream = stream_bytes key.stream_key (stream_of way number) 128 in
    let each = length-map (zip block stream) (λ (p : ℕ × ℕ). bit_xor p.0 p.1) in
    let pairs = length-zip block stream in
    let whole = length-stream_bytes key.stream_key (stream_of way number) 128 in
    omega (arith, each, pairs, whole, long)

tag_long : (key : BodyKey) (way : Direction) (client number : ℕ) (cipher : List ℕ) → length (tag_of key way client number cipher) ≡ 32
unfolding tag_of
tag_long key way client number cipher = length-sha256 _

sealed_long : (key : BodyKey) (way : Direction) (client number : ℕ) (text : List ℕ) → length (sealed key way client number text) ≡ BODY_LEN
unfolding sealed
sealed_long key way client number text =
    let cipher = masked key way number (block_of text) in
    let parts = length-append cipher (tag_of key way client number cipher) in
    let front = masked_long key way number (block_of text) (block_long text) in
    let back = tag_long key way client number cipher in
    omega (arith, parts, front, back)

-- a hand has the keys of each client that it has keys of
has_key : (keys : List HeldKey) (clients : List ℕ) (c : ℕ) → map (λ k. k.client) keys ≡ clients → In c clients → key_in keys c ≡ None → ⊥
has_key [] clients c same i none = let no : In c [] = subst (In c) (sym same) i in no
has_key (k ∷ keys) clients c same i none = elim (cases_Bool (nat_eq k.client c)) [
  | inl found ↦ let wrong : Some k.key ≡ None = rw found at none in cc
  | inr other ↦ elim (subst (In c) (sym same) i) [
    | inl e ↦ let test : nat_eq k.client c ≡ true = eq-eqb k.client c (sym e) in let wrong : true ≡ false = sym test ∙ other in cc
    | inr j ↦ has_key keys (map (λ k. k.client) keys) c refl j (rw other at none)
  ]
]

seal_long : (keys : List HeldKey) (clients : List ℕ) (c : ℕ) → map (λ k. k.client) keys ≡ clients → In c clients → (way : Direction) (client number : ℕ) (text : List ℕ) → length (sealed_by (key_in keys c) way client number text) ≡ BODY_LEN
seal_long keys clients c same i way client number text = by (key_in keys c) refl
  where
    by : (o : Option BodyKey) → key_in keys c ≡ o → length (sealed_by o way client number text) ≡ BODY_LEN
    by None e = absurd (has_key keys clients c same i e)
    by (Some key) e = sealed_long key way client number text

pub seals_whole : (d : PlainDirectory) (hand : PlainHand) → IsHandIn d hand → SealsWhole d.params (bodies_of hand) hand.seat
seals_whole d hand k = record {
  ops = λ c stamp op i. seal_long hand.keys (clients_of d.params hand.seat) c k.clients i _ c stamp _;
  replies = λ c number reply i. seal_long hand.keys (clients_of d.params hand.seat) c k.clients i _ c number _;
}
