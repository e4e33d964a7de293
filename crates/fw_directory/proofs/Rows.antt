-- The 512 digests of a slot at a point are those of its places.
use Rattle.std.proofs.Common.{ℕ, ◌+◌, ◌-◌, ◌*◌, ◌/◌, ◌%◌, ◌<◌, ◌≡◌, ◌∙◌, ap, arith, List, take, drop}
use Rattle.std.proofs.lemmas.List.{take-take, drop-drop, drop-take}
use Rattle.fw_base.specs.declared.slot.Slot.{Slot}
use Rattle.fw_base.specs.Places.{row_index, place_index}
use Rattle.fw_text.specs.Bits.{value_at}
use Rattle.fw_lamport.specs.Signature.{place_at}
use Rattle.fw_directory.specs.Directories.{PlainDirectory, digest_at, row_at}

-- value k of 512 that stand behind others
value_of_row : (k first : ℕ) (xs : List ℕ) → k < 512 → take 32 (drop (32 * k) (take 16384 (drop first xs))) ≡ take 32 (drop (first + 32 * k) xs)
value_of_row k first xs small =
    let split : 16384 ≡ 32 * k + (16384 - 32 * k) = omega arith in
    ap (λ n. take 32 (drop (32 * k) (take n (drop first xs)))) split
    ∙ ap (take 32) (drop-take (32 * k) (16384 - 32 * k) (drop first xs))
    ∙ take-take 32 (16384 - 32 * k) (drop (32 * k) (drop first xs)) (omega arith)
    ∙ ap (take 32) (drop-drop (32 * k) first xs)

place_of_row : (row k : ℕ) → 32 * (row * 512 + 2 * 0 + 0) + 32 * k ≡ 32 * (row * 512 + 2 * (k / 2) + k % 2)
place_of_row row k = omega arith

-- digest k of a row is that of the slot's place k
pub value_at-row_at : (d : PlainDirectory) (slot : Slot) (point k : ℕ) → k < 512 → value_at (row_at d slot point) k ≡ digest_at d (place_at slot point k)
value_at-row_at d slot point k small =
    value_of_row k (32 * place_index d.params (place_at slot point 0)) d.digests small
    ∙ ap (λ n. take 32 (drop n d.digests)) (place_of_row (row_index d.params slot point) k)
