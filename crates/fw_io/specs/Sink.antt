-- What a write takes, and what a sink in memory is.
use Rattle.std.specs.Prelude.{◌≡◌, Bool, ℕ, ◌-◌, ◌<◌, ◌≤◌, ◌⊎◌, List, ◌++◌, length, take, Option, Some, min, Contains}
use Rattle.fw_base.specs.Faults.{Rose, one_more}
use Rattle.fw_io.specs.declared.sink.Took.{Took}
use Rattle.fw_io.specs.declared.sink.Took.TheVariants as took

-- the write took something and the count of faults is as it was, or the count rose
abbrev pub TookOrRose : ℕ → ℕ → Took → Type 0
TookOrRose before after (took.Took n) = after ≡ before
TookOrRose before after took.Failed = Rose before after

-- what was taken is within the piece, and at least one byte of a piece that has any
abbrev pub IsPart : List ℕ → Took → Type 0
IsPart piece (took.Took n) = (n ≤ length piece) × (0 < length piece → 0 < n)
IsPart piece took.Failed = Unit {0}

-- what a write does at a sink that had these bytes written
abbrev pub Takes : List ℕ → List ℕ → Took → Option (List ℕ) → Type 0
Takes bytes piece (took.Took n) written = written ≡ Some (bytes ++ take n piece)
Takes bytes piece took.Failed written = written ≡ Some bytes

-- a front of the text was appended, and not all of it
abbrev pub AppendsFront : List ℕ → List ℕ → Option (List ℕ) → Type 0
AppendsFront bytes text written = (k : ℕ) × (k < length text) × (written ≡ Some (bytes ++ take k text))

-- a writer of the standard library, whether its bytes are told, and how often it failed
pub record Outlet (W : Type 0) : Type 0 where
  pub inner : W
  pub tells : Bool
  pub faults : ℕ

-- what a sink in memory is: what was written, the bytes that it has room for, the calls that fail, the calls so far, and the faults so far
pub record SinkState : Type 0 where
  pub written : List ℕ
  pub room : ℕ
  pub fails : List ℕ
  pub calls : ℕ
  pub faults : ℕ

-- the room that is left
abbrev pub room_left : SinkState → ℕ
room_left s = s.room - length s.written

-- it takes as much of the piece as has room
abbrev pub TakesWhatFits : SinkState → List ℕ → Took → Type 0
TakesWhatFits s piece (took.Took n) = n ≡ min (length piece) (room_left s)
TakesWhatFits s piece took.Failed = Unit {0}

-- the call is listed to fail, or some bytes find no room
abbrev pub MustFail : SinkState → List ℕ → Type 0
MustFail s piece = Contains s.fails s.calls ⊎ ((0 < length piece) × (room_left s ≡ 0))

-- a fault is counted where the write failed, and at no other write
abbrev pub faults_after : ℕ → Took → ℕ
faults_after faults (took.Took n) = faults
faults_after faults took.Failed = one_more faults
