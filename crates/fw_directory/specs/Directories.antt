-- The directory of a deployment: the digest of each dealt value, by its place.
use Rattle.std.specs.Prelude.{◌≡◌, ℕ, ◌+◌, ◌*◌, List, length, take, drop, IsTrue}
use Rattle.fw_list.specs.declared.limits.TheConstants.{ROW_LEN}
use Rattle.fw_base.specs.declared.params.Params.{Params}
use Rattle.fw_base.specs.declared.slot.Slot.{Slot}
use Rattle.fw_base.specs.declared.slot.Place.{Place}
use Rattle.fw_base.specs.Sizes.{accepted, keys, executors}
use Rattle.fw_base.specs.Places.{place_index}
use Rattle.fw_text.specs.Bits.{value_at}
use Rattle.fw_lamport.specs.Signature.{place_at}

-- the sizes, and 32 bytes for each place, in the order of the places' indices
pub record PlainDirectory : Type 0 where
  pub params : Params
  pub digests : List ℕ

-- how many rows of 512 places there are: one for each slot, and of a reply one for each point
abbrev pub rows : Params → ℕ
rows p = keys p + p.numbers * (executors p + 1)

-- the digest of a place
abbrev pub digest_at : PlainDirectory → Place → List ℕ
digest_at d place = value_at d.digests (place_index d.params place)

-- the 512 digests of a slot at a point
abbrev pub row_at : PlainDirectory → Slot → ℕ → List ℕ
row_at d slot point = take ROW_LEN (drop (32 * place_index d.params (place_at slot point 0)) d.digests)

-- it has a digest for each place of a deployment
pub record IsDirectory (d : PlainDirectory) : Type 0 where
  pub sizes : IsTrue (accepted d.params)
  pub whole : length d.digests ≡ ROW_LEN * rows d.params
