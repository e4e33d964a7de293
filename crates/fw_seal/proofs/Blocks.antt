-- The block of a text, written and read.
use Rattle.std.proofs.Common.{◌≡◌, ◌≢◌, ℕ, ◌+◌, ◌-◌, ◌*◌, ◌<◌, ◌≤◌, List, ◌++◌, length, take, drop, get_or, refl, sym, ap, ◌∙◌, arith, inl, inr, length-append, length-drop, take-append-drop, subst}
use Rattle.std.specs.Prelude.{replicate, Any}
use Rattle.std.specs.Int.{w16, to_be_bytes, from_be_bytes}
use Rattle.std.proofs.lemmas.List.{length-replicate, take_at, drop_at, drop-drop, length-take-le, get_or-take, get_or_past}
use Rattle.std.proofs.lemmas.Nat.{be_bytes_2, from_be_bytes-to_be_bytes_2}
use Rattle.std.proofs.lemmas.Bool.{cases_lt}
use borrow.Rule.Slice.PartMut.{put_mid}
use Rattle.fw_seal.specs.Seal.{block_of, length_in, IsSpoiled}
use Rattle.fw_seal.proofs.Bytes.{zeros_from_none, none_in_zeros, drop-zeros}

pub length-two_bytes : (n : ℕ) → length (to_be_bytes w16 n) ≡ 2
length-two_bytes n = refl

pub length-block_of : (text : List ℕ) → length text ≤ 510 → length (block_of text) ≡ 512
unfolding block_of
length-block_of text short = omega (arith, length-append text (replicate (510 - length text) 0), length-replicate {A = ℕ} (510 - length text) 0)

-- the length's two bytes and the text, written over zeros
pub written : (head zeros part : List ℕ) (k : ℕ) (text : List ℕ) → length text ≤ 510 → head ≡ to_be_bytes w16 (length text) → zeros ≡ replicate 510 0 → k ≡ length text → part ≡ text → put_mid 2 k (head ++ zeros) part ≡ block_of text
unfolding block_of
written head zeros part k text short named blank same copied =
    let two : length head ≡ 2 = ap length named ∙ length-two_bytes (length text) in
    let front : take 2 (head ++ zeros) ≡ to_be_bytes w16 (length text) = take_at head zeros 2 two ∙ named in
    let back : drop k (drop 2 (head ++ zeros)) ≡ replicate (510 - length text) 0 =
    ap (drop k) (drop_at head zeros 2 two ∙ blank) ∙ drop-zeros k 510 (omega arith) ∙ ap (λ (n : ℕ). replicate {A = ℕ} (510 - n) 0) same in
    ap (λ (xs : List ℕ). xs ++ (part ++ drop k (drop 2 (head ++ zeros)))) front
    ∙ ap (λ (xs : List ℕ). to_be_bytes w16 (length text) ++ (xs ++ drop k (drop 2 (head ++ zeros)))) copied
    ∙ ap (λ (xs : List ℕ). to_be_bytes w16 (length text) ++ (text ++ xs)) back

pub take-block_of : (text : List ℕ) → take 2 (block_of text) ≡ to_be_bytes w16 (length text)
unfolding block_of
take-block_of text = refl

pub drop-block_of : (text : List ℕ) → drop 2 (block_of text) ≡ text ++ replicate (510 - length text) 0
unfolding block_of
drop-block_of text = refl

-- the text in its block
pub text_in_block : (text : List ℕ) → take (length text) (drop 2 (block_of text)) ≡ text
text_in_block text = ap (take (length text)) (drop-block_of text) ∙ take_at text (replicate (510 - length text) 0) (length text) refl

pub length_in-block_of : (text : List ℕ) → length text ≤ 510 → length_in (block_of text) ≡ length text
length_in-block_of text short =
    ap (λ (bs : List ℕ). from_be_bytes w16 bs) (take-block_of text) ∙ from_be_bytes-to_be_bytes_2 (length text) (omega arith)

-- what stands behind the text in its block
pub rest-block_of : (text : List ℕ) → drop (2 + length text) (block_of text) ≡ replicate (510 - length text) 0
rest-block_of text =
    sym (drop-drop (length text) 2 (block_of text))
    ∙ ap (drop (length text)) (drop-block_of text)
    ∙ drop_at text (replicate (510 - length text) 0) (length text) refl

-- the length that the first two bytes give
pub length_in-reads : (block : List ℕ) → length_in block ≡ get_or block 0 0 * 256 + get_or block 1 0
length_in-reads block =
    let first : get_or (take 2 block) 0 0 ≡ get_or block 0 0 = get_or-take 2 block 0 0 (omega arith) in
    let second : get_or (take 2 block) 1 0 ≡ get_or block 1 0 = get_or-take 2 block 1 0 (omega arith) in
    omega (arith, first, second)

-- the two bytes of a block's length
pub length_in_is : (block : List ℕ) (len : ℕ) → length block ≡ 512 → ((i : ℕ) → get_or block i 0 < 256) → len ≡ length_in block → to_be_bytes w16 len ≡ take 2 block
length_in_is block len whole bytes named =
    let two : length (take 2 block) ≡ 2 = length-take-le 2 block (omega arith) in
    be_bytes_2 (take 2 block) len two (λ i.
    elim (cases_lt i 2) [
      | inl inside ↦ let e : get_or (take 2 block) i 0 ≡ get_or block i 0 = get_or-take 2 block i 0 inside in omega (arith, e, bytes i)
      | inr past ↦ let e : get_or (take 2 block) i 0 ≡ 0 = get_or_past (take 2 block) i 0 (omega (arith, two)) in omega (arith, e)
    ]) named

-- a block that isn't spoiled is that of the text in it
pub unspoiled_is_block_of : (block : List ℕ) (len : ℕ) → length block ≡ 512 → ((i : ℕ) → get_or block i 0 < 256) → len ≡ length_in block → len ≤ 510 → ¬ Any (λ b. b ≢ 0) (drop (2 + len) block) → block ≡ block_of (take len (drop 2 block))
unfolding block_of
unspoiled_is_block_of block len whole bytes named short blank =
    let text : List ℕ = take len (drop 2 block) in
    let fits : length text ≡ len = length-take-le len (drop 2 block) (omega (arith, length-drop 2 block)) in
    let left : length (drop (2 + len) block) ≡ 510 - length text = omega (arith, length-drop (2 + len) block, fits) in
    let zeros : drop len (drop 2 block) ≡ replicate (510 - length text) 0 =
    drop-drop len 2 block ∙ zeros_from_none (drop (2 + len) block) blank ∙ ap (λ (n : ℕ). replicate {A = ℕ} n 0) left in
    let front : take 2 block ≡ to_be_bytes w16 (length text) =
    sym (length_in_is block len whole bytes named) ∙ ap (to_be_bytes w16) (sym fits) in
    sym (take-append-drop 2 block)
    ∙ ap (λ (xs : List ℕ). xs ++ drop 2 block) front
    ∙ ap (λ (xs : List ℕ). to_be_bytes w16 (length text) ++ xs) (sym (take-append-drop len (drop 2 block)) ∙ ap (λ (xs : List ℕ). text ++ xs) zeros)

-- the block of a text isn't spoiled
pub block_of_unspoiled : (text : List ℕ) → length text ≤ 510 → ¬ IsSpoiled (block_of text)
block_of_unspoiled text short spoiled =
    let named : length_in (block_of text) ≡ length text = length_in-block_of text short in
    elim spoiled [
      | inl too_long ↦ omega (arith, too_long, named)
      | inr other ↦
          let at_text : drop (2 + length_in (block_of text)) (block_of text) ≡ replicate (510 - length text) 0 =
          ap (λ (n : ℕ). drop (2 + n) (block_of text)) named ∙ rest-block_of text in
          let P : List ℕ → Type 0 = λ xs. Any (λ (b : ℕ). b ≢ 0) xs in
          none_in_zeros (510 - length text) (subst P at_text other)
    ]
