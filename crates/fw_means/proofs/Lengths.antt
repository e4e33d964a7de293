-- How long bodies and signatures are at most.
use Rattle.std.proofs.Common.{◌≡◌, ℕ, zero, suc, ◌+◌, ◌*◌, ◌≤◌, List, length, drop, bit_xor, refl, ◌∙◌, arith}
use Rattle.std.specs.List.{flat_map, zip}
use Rattle.std.specs.Int.{w32, to_le_bytes}
use Rattle.std.proofs.lemmas.List.{length-append, length-map, length-take}
use Rattle.std.proofs.lemmas.Slice.Zip.{length-zip}
use Rattle.rand_chacha.specs.ChaCha.{word_at, key_of}
use Rattle.sha2.proofs.Facts256.{length-sha256}
use Rattle.fw_list.specs.Lists.{numbers_from}
use Rattle.fw_list.specs.Numbers.{u32}
use Rattle.fw_text.specs.Bits.{value_at}
use Rattle.fw_seal.specs.declared.types.BodyKey.{BodyKey}
use Rattle.fw_seal.specs.declared.types.Direction.{Direction}
use Rattle.fw_seal.specs.Seal.{stream_of, stream_bytes, masked, block_of, tag_of, sealed}

pub length-four : (n : ℕ) → length (u32 n) ≡ 4
unfolding u32
length-four n = refl

length-stream : (key : List ℕ) (stream n : ℕ) → length (stream_bytes key stream n) ≡ 4 * n
unfolding stream_bytes
length-stream key stream zero = refl
length-stream key stream (suc n) =
    length-append (stream_bytes key stream n) (to_le_bytes w32 (word_at 10 (key_of key) stream n))
    ∙ (let rest = length-stream key stream n in
    let four : length (to_le_bytes w32 (word_at 10 (key_of key) stream n)) ≡ 4 = refl in
    omega arith)

masked-most : (key : BodyKey) (way : Direction) (number : ℕ) (block : List ℕ) → length (masked key way number block) ≤ 512
unfolding masked
masked-most key way number block =
    let stream = stream_bytes key.stream_key (stream_of way number) 128 in
    let each = length-map (zip block stream) (λ (p : ℕ × ℕ). bit_xor p.0 p.1) in
    let pairs = length-zip block stream in
    let long = length-stream key.stream_key (stream_of way number) 128 in
    omega arith

tag-most : (key : BodyKey) (way : Direction) (client number : ℕ) (cipher : List ℕ) → length (tag_of key way client number cipher) ≡ 32
unfolding tag_of
tag-most key way client number cipher = length-sha256 _

-- a body
pub sealed-most : (key : BodyKey) (way : Direction) (client number : ℕ) (text : List ℕ) → length (sealed key way client number text) ≤ 544
unfolding sealed
sealed-most key way client number text =
    let cipher = masked key way number (block_of text) in
    let parts = length-append cipher (tag_of key way client number cipher) in
    let front = masked-most key way number (block_of text) in
    let back = tag-most key way client number cipher in
    omega arith

-- a value
pub value-most : (values : List ℕ) (k : ℕ) → length (value_at values k) ≤ 32
value-most values k = let len = length-take 32 (drop (32 * k) values) in omega arith

-- so many pieces, of 32 bytes at most
pub pieces-most : (f : ℕ → List ℕ) → ((b : ℕ) → length (f b) ≤ 32) → (first count : ℕ) → length (flat_map f (numbers_from first count)) ≤ 32 * count
pieces-most f each first zero = omega arith
pieces-most f each first (suc count) =
    let parts = length-append (f first) (flat_map f (numbers_from (first + 1) count)) in
    let one = each first in
    let rest = pieces-most f each (first + 1) count in
    omega arith
