-- What is dealt: every secret, share and key is a function of the seed. Stream 1 has the secrets of all slots but replies,
-- stream 2 the coefficients of the polynomials whose values are the secrets and shares of replies, stream 3 the keys.
use Rattle.std.specs.Prelude.{ℕ, ◌+◌, ◌-◌, ◌*◌, List, map, flat_map, slice_index}
use Rattle.fw_list.specs.Lists.{numbers_from}
use Rattle.fw_base.specs.declared.params.Params.{Params}
use Rattle.fw_base.specs.declared.slot.Slot.{Slot}
use Rattle.fw_base.specs.declared.slot.Slot.TheVariants as slots
use Rattle.fw_base.specs.declared.slot.Place.{Place}
use Rattle.fw_base.specs.Places.{slot_index}
use Rattle.fw_shamir.specs.Polynomial.{eval}
use Rattle.fw_lamport.specs.Signature.{place_at}
use Rattle.fw_seal.specs.declared.types.BodyKey.{BodyKey}
use Rattle.fw_secret.specs.Streams.{chunk}

-- what a deal follows from: the sizes of the deployment, and 32 bytes
pub record Origin : Type 0 where
  pub params : Params
  pub seed : List ℕ

-- coefficient k of the 32 polynomials of a reply's secret for a bit and side: byte j is that of x^k in the polynomial of byte j
abbrev pub coefficient : Origin → ℕ → ℕ → ℕ → ℕ → List ℕ
coefficient o number bit side k = chunk o.seed 2 (((number - 1) * 512 + 2 * bit + side) * 4 + k)

-- the polynomial of byte j, which has g + 1 coefficients
abbrev pub polynomial : Origin → ℕ → ℕ → ℕ → ℕ → List ℕ
polynomial o number bit side j = map (λ k. slice_index (coefficient o number bit side k) j) (numbers_from 0 (o.params.g + 1))

-- the values of the 32 polynomials at a point: the secret at 0, the share of executor j at j + 1
unfoldable pub reply_value : Origin → ℕ → ℕ → ℕ → ℕ → List ℕ
reply_value o number bit side point = map (λ j. eval (polynomial o number bit side j) point) (numbers_from 0 32)

abbrev pub value_for : Origin → Slot → ℕ → ℕ → ℕ → List ℕ
value_for o (slots.Reply number) bit side point = reply_value o number bit side point
value_for o slot bit side point = chunk o.seed 1 (slot_index o.params slot * 512 + 2 * bit + side)

-- the value dealt for a place, 32 bytes
unfoldable pub dealt : Origin → Place → List ℕ
dealt o place = value_for o place.slot place.bit place.side place.point

-- the 512 values of a slot at a point
unfoldable pub slot_values : Origin → Slot → ℕ → List ℕ
slot_values o slot point = flat_map (λ k. dealt o (place_at slot point k)) (numbers_from 0 512)

-- the two keys of a client's bodies
abbrev pub body_key : Origin → ℕ → BodyKey
body_key o client = record { stream_key = chunk o.seed 3 (2 * client); mac_key = chunk o.seed 3 (2 * client + 1) }
