-- Which 256 values of 32 bytes are a signature.
use Rattle.std.specs.Prelude.{◌≡◌, ℕ, ◌+◌, ◌*◌, ◌/◌, ◌%◌, ◌<◌, List}
use Rattle.fw_base.specs.declared.slot.Slot.{Slot}
use Rattle.fw_base.specs.declared.slot.Place.{Place}
use Rattle.fw_text.specs.Bits.{bit_of, place_on, value_at}
use Rattle.fw_text.specs.Texts.{hash, Value}

-- the place of value k among the 512 of a slot at a point: they stand by bit, side 0 first
abbrev pub place_at : Slot → ℕ → ℕ → Place
place_at slot point k = record { slot = slot; bit = k / 2; side = k % 2; point = point }

-- where a bit's side stands among the 512 values of a slot: by bit, side 0 first
abbrev pub side_of : List ℕ → ℕ → ℕ
side_of digest b = 2 * b + bit_of digest b

-- the values are the secrets on the sides of the digest's bits
abbrev pub IsSigned : List ℕ → List ℕ → List ℕ → Type 0
IsSigned secrets digest sig = (b : ℕ) → b < 256 → value_at sig b ≡ value_at secrets (side_of digest b)

-- value b of the signature has, with its place, the digest that the directory's rows have on that side
abbrev pub IsShown : List ℕ → Slot → ℕ → List ℕ → List ℕ → ℕ → Type 0
IsShown rows slot point digest sig b = hash (Value (place_on slot point digest b) (value_at sig b)) ≡ value_at rows (side_of digest b)

-- each of them has
abbrev pub IsValid : List ℕ → Slot → ℕ → List ℕ → List ℕ → Type 0
IsValid rows slot point digest sig = (b : ℕ) → b < 256 → IsShown rows slot point digest sig b

-- bit b is the first whose value hasn't
pub record IsFirstWrong (rows : List ℕ) (slot : Slot) (point : ℕ) (digest sig : List ℕ) (b : ℕ) : Type 0 where
  pub bit : b < 256
  pub wrong : ¬ IsShown rows slot point digest sig b
  pub before : (a : ℕ) → a < b → IsShown rows slot point digest sig a
