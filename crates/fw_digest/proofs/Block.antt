-- The masked block of a key, byte by byte.
use Rattle.std.proofs.Common.{◌≡◌, ℕ, ◌-◌, ◌<◌, ◌≤◌, List, length, get_or, refl, sym, ap, ◌∙◌, arith, length-append, inl, inr}
use Rattle.std.specs.Prelude.{bit_xor, replicate}
use Rattle.std.proofs.lemmas.List.{same_lists, get_or-map, get_or_past, get_or-replicate, get_or_append_left, get_or-append_right}
use Rattle.std.proofs.lemmas.Bool.{cases_lt}
use Rattle.std.proofs.lemmas.Grind.{get_or_default_zero}
use Rattle.std.proofs.Math.ListN.{length-map, length-replicate}
use Rattle.fw_digest.specs.Hmac.{key_block, masked}

pub length-key_block : (key : List ℕ) → length key ≤ 64 → length (key_block key) ≡ 64
length-key_block key short = omega (arith, length-append key (replicate (64 - length key) 0), length-replicate {A = ℕ} (64 - length key) 0)

-- the block's byte is the key's, or 0 past its end
pub get_or-key_block : (key : List ℕ) → length key ≤ 64 → (k : ℕ) → k < 64 → get_or (key_block key) k 0 ≡ get_or key k 0
get_or-key_block key short k below =
    elim (cases_lt k (length key)) [
      | inl inside ↦ get_or_append_left key (replicate (64 - length key) 0) 0 k inside
      | inr past ↦ get_or-append_right key (replicate (64 - length key) 0) (length key) k 0 refl past
          ∙ get_or-replicate (64 - length key) (k - length key) 0 0 (omega arith)
          ∙ sym (get_or_past key k 0 past)
    ]

-- a block of 64 bytes that has the key's bytes with the mask is the masked block
pub masked-by_index : (key block : List ℕ) (mask : ℕ) → length key ≤ 64 → length block ≡ 64 → ((i : ℕ) → i < 64 → get_or block i 0 ≡ bit_xor (get_or key i 0) mask) → block ≡ masked mask (key_block key)
masked-by_index key block mask short whole written =
    let filled : length (key_block key) ≡ 64 = length-key_block key short in
    let same_length : length block ≡ length (masked mask (key_block key)) = whole ∙ sym (simp length-map filled) in
    same_lists block (masked mask (key_block key)) same_length (λ k d below.
    let inside : k < 64 = omega (arith, whole) in
    get_or_default_zero block k d below ∙ written k inside
    ∙ ap (λ x. bit_xor x mask) (sym (get_or-key_block key short k inside))
    ∙ sym (get_or-map (λ b. bit_xor b mask) (key_block key) k 0 d (omega (arith, filled))))
