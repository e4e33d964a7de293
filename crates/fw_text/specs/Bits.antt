-- What signs a digest: for each of its 256 bits one value of 32 bytes, dealt for that bit and side.
use Rattle.std.specs.Prelude.{ℕ, ◌*◌, ◌/◌, ◌%◌, ◌^◌, ◌-◌, List, take, drop, slice_index}
use Rattle.fw_base.specs.declared.slot.Slot.{Slot}
use Rattle.fw_base.specs.declared.slot.Place.{Place}

-- bit b of a digest: bit 0 is the highest bit of its first byte
abbrev pub bit_of : List ℕ → ℕ → ℕ
bit_of digest b = (slice_index digest (b / 8) / 2 ^ (7 - b % 8)) % 2

-- the place of the value for bit b of a digest: on that bit's side
abbrev pub place_on : Slot → ℕ → List ℕ → ℕ → Place
place_on slot point digest b = record { slot = slot; bit = b; side = bit_of digest b; point = point }

-- the value at a place of a list of values of 32 bytes
abbrev pub value_at : List ℕ → ℕ → List ℕ
value_at values k = take 32 (drop (32 * k) values)
