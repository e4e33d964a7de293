-- A digest is fixed by its 256 bits.
use Rattle.std.specs.Prelude.{◌≡◌, ℕ, ◌<◌, List, length, slice_index}
use Rattle.fw_text.specs.Bits.{bit_of}

-- 32 bytes
pub record IsDigest (digest : List ℕ) : Type 0 where
  pub long : length digest ≡ 32
  pub bytes : (k : ℕ) → slice_index digest k < 256

abbrev pub HaveSameBits : List ℕ → List ℕ → Type 0
HaveSameBits one other = (b : ℕ) → b < 256 → bit_of one b ≡ bit_of other b

-- two digests with the same bits are the same
abbrev pub FixedByBits : Type 0
FixedByBits = (one other : List ℕ) → IsDigest one → IsDigest other → HaveSameBits one other → one ≡ other
