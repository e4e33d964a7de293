-- A byte is fixed by its eight bits, and a digest by those of its bytes.
use Rattle.std.proofs.Common.{◌≡◌, ℕ, zero, suc, ◌+◌, ◌-◌, ◌*◌, ◌/◌, ◌%◌, ◌^◌, ◌<◌, ◌≤◌, List, sym, ap, ◌∙◌, arith}
use Rattle.std.specs.Prelude.{slice_index}
use Rattle.std.proofs.lemmas.Nat.{shr-shr}
use Rattle.std.proofs.lemmas.List.{same_lists, get_or_default}
use Rattle.fw_text.specs.Bits.{bit_of}
use Rattle.fw_law_text.specs.ByBits.{IsDigest, HaveSameBits, FixedByBits}

halves : (x y : ℕ) → x / 2 ≡ y / 2 → x % 2 ≡ y % 2 → x ≡ y
halves x y half bit = omega arith

-- one bit more
one_more : (x y i : ℕ) → x / 2 ^ (i + 1) ≡ y / 2 ^ (i + 1) → (x / 2 ^ i) % 2 ≡ (y / 2 ^ i) % 2 → x / 2 ^ i ≡ y / 2 ^ i
one_more x y i above bit =
    let half : (z : ℕ) → z / 2 ^ i / 2 ≡ z / 2 ^ (i + 1) = λ z. shr-shr z i 1 in
    halves (x / 2 ^ i) (y / 2 ^ i) (half x ∙ above ∙ sym (half y)) bit

-- numbers below 2 ^ 8 with the same bits from bit 8 - k on agree there
top_bits : (x y k : ℕ) → x < 256 → y < 256 → ((i : ℕ) → i < 8 → (x / 2 ^ i) % 2 ≡ (y / 2 ^ i) % 2) → k ≤ 8 → x / 2 ^ (8 - k) ≡ y / 2 ^ (8 - k)
top_bits x y zero small small' bits low = omega arith
top_bits x y (suc k) small small' bits low =
    let next : 8 - k ≡ (8 - suc k) + 1 = omega arith in
    let above : x / 2 ^ (8 - k) ≡ y / 2 ^ (8 - k) = top_bits x y k small small' bits (omega arith) in
    one_more x y (8 - suc k) (sym (ap (λ j. x / 2 ^ j) next) ∙ above ∙ ap (λ j. y / 2 ^ j) next) (bits (8 - suc k) (omega arith))

byte_by_bits : (x y : ℕ) → x < 256 → y < 256 → ((i : ℕ) → i < 8 → (x / 2 ^ i) % 2 ≡ (y / 2 ^ i) % 2) → x ≡ y
byte_by_bits x y small small' bits = let all : x / 1 ≡ y / 1 = top_bits x y 8 small small' bits (omega arith) in omega arith

-- bit i of byte k, counted from the lowest, is a bit of the digest
bit_there : (digest : List ℕ) (k i : ℕ) → i < 8 → bit_of digest (8 * k + (7 - i)) ≡ (slice_index digest k / 2 ^ i) % 2
bit_there digest k i low =
    let byte : (8 * k + (7 - i)) / 8 ≡ k = omega arith in
    let bit : 7 - (8 * k + (7 - i)) % 8 ≡ i = omega arith in
    ap (λ j. (slice_index digest j / 2 ^ (7 - (8 * k + (7 - i)) % 8)) % 2) byte ∙ ap (λ j. (slice_index digest k / 2 ^ j) % 2) bit

pub same_bytes : (one other : List ℕ) → IsDigest one → IsDigest other → HaveSameBits one other → (k : ℕ) → k < 32 → slice_index one k ≡ slice_index other k
same_bytes one other first second bits k low =
    byte_by_bits (slice_index one k) (slice_index other k) (first.bytes k) (second.bytes k)
    (λ i h. sym (bit_there one k i h) ∙ bits (8 * k + (7 - i)) (omega arith) ∙ bit_there other k i h)

pub fixed_by_bits : FixedByBits
fixed_by_bits one other first second bits =
    same_lists one other (first.long ∙ sym second.long)
    (λ k d h.
    let low : k < 32 = omega (arith, first.long) in
    get_or_default one k d 0 h ∙ same_bytes one other first second bits k low ∙ get_or_default other k 0 d (omega (arith, first.long, second.long)))
