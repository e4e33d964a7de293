-- What is hashed of a text has 32 bytes.
use Rattle.std.proofs.Common.{ℕ, zero, suc, ◌<◌, ◌/◌, ◌%◌, ◌^◌, List, [], ◌∷◌, ◌++◌, All, arith}
use Rattle.std.specs.Prelude.{slice_index}
use Rattle.std.specs.Int.{to_be_bytes, w32}
use Rattle.std.proofs.lemmas.List.Elements.{All-nil, All-cons, All-head, All-tail, All-append}
use Rattle.sha2.specs.Sha256.{digest_bytes, sha256, final_hash, initial_hash_256}
use Rattle.sha2.proofs.Facts256.{length-sha256}
use Rattle.fw_text.specs.Texts.{Text, hash, text_bytes}
use Rattle.fw_law_text.specs.ByBits.{IsDigest}

abbrev IsByte : ℕ → Type 0
IsByte b = b < 256

small : (m : ℕ) → m % 256 < 256
small m = omega arith

four : (a b c d : ℕ) → All IsByte (a % 256 ∷ b % 256 ∷ c % 256 ∷ d % 256 ∷ [])
four a b c d =
    All-cons IsByte (a % 256) (b % 256 ∷ c % 256 ∷ d % 256 ∷ []) (small a)
    (All-cons IsByte (b % 256) (c % 256 ∷ d % 256 ∷ []) (small b)
    (All-cons IsByte (c % 256) (d % 256 ∷ []) (small c) (All-cons IsByte (d % 256) [] (small d) (All-nil IsByte))))

word-bytes : (n : ℕ) → All IsByte (to_be_bytes w32 n)
word-bytes n = four (n / 256 ^ 3) (n / 256 ^ 2) (n / 256 ^ 1) n

words-bytes : (h : List ℕ) (n : ℕ) → All IsByte (digest_bytes h n)
unfolding digest_bytes
words-bytes h zero = All-nil IsByte
words-bytes h (suc n) = All-append IsByte (digest_bytes h n) (to_be_bytes w32 (slice_index h n)) (words-bytes h n) (word-bytes (slice_index h n))

byte_at : (bytes : List ℕ) → All IsByte bytes → (k : ℕ) → slice_index bytes k < 256
byte_at [] all k = omega arith
byte_at (b ∷ bytes) all zero = All-head IsByte b bytes all
byte_at (b ∷ bytes) all (suc k) = byte_at bytes (All-tail IsByte b bytes all) k

hash-bytes : (m : List ℕ) → All IsByte (sha256 m)
unfolding sha256
hash-bytes m = words-bytes (final_hash initial_hash_256 m) 8

pub hash_is_digest : (text : Text) → IsDigest (hash text)
unfolding hash
hash_is_digest text = record {
  long = length-sha256 (text_bytes text);
  bytes = byte_at (sha256 (text_bytes text)) (hash-bytes (text_bytes text));
}
