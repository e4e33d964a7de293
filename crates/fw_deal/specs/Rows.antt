-- The rows of a directory.
use Rattle.std.specs.Prelude.{◌≡◌, ℕ, ◌*◌, ◌≤◌, ◌<◌, List, length, take, drop, flat_map, IsTrue}
use Rattle.fw_list.specs.Lists.{numbers_from}
use Rattle.fw_list.specs.declared.limits.TheConstants.{ROW_LEN}
use Rattle.fw_base.specs.declared.slot.Slot.{Slot}
use Rattle.fw_base.specs.Places.{slot_fits, last_point, row_index}
use Rattle.fw_text.specs.Bits.{value_at}
use Rattle.fw_text.specs.Texts.{hash, Value}
use Rattle.fw_lamport.specs.Signature.{place_at}
use Rattle.fw_secret.specs.Dealt.{Origin, slot_values}

-- the digests of a slot's 512 values at a point
unfoldable pub row_of : Slot → ℕ → List ℕ → List ℕ
row_of slot point values = flat_map (λ k. hash (Value (place_at slot point k) (value_at values k))) (numbers_from 0 512)

-- the digests are those of the first rows of a deal
pub record HasRows (o : Origin) (count : ℕ) (digests : List ℕ) : Type 0 where
  pub whole : length digests ≡ ROW_LEN * count
  pub each : (slot : Slot) (point : ℕ) → IsTrue (slot_fits o.params slot) → point ≤ last_point o.params slot → row_index o.params slot point < count
      → take ROW_LEN (drop (ROW_LEN * row_index o.params slot point) digests) ≡ row_of slot point (slot_values o slot point)
