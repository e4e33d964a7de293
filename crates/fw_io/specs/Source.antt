-- What a read gives, and what a source in memory is.
use Rattle.std.specs.Prelude.{◌≡◌, Bool, true, false, None, ℕ, ◌+◌, ◌<◌, ◌≤◌, List, [], ◌++◌, length, take, drop, Option, Some, min}
use Rattle.fw_base.specs.Faults.{Rose, one_more}
use Rattle.fw_io.specs.declared.source.Got.{Got}
use Rattle.fw_io.specs.declared.source.Got.TheVariants as got

-- the read gave something and the count of faults is as it was, or the count rose
abbrev pub GotOrRose : ℕ → ℕ → Got → Type 0
GotOrRose before after (got.Got n) = after ≡ before
GotOrRose before after got.Failed = Rose before after

-- what was given is within the buffer
abbrev pub IsWithin : List ℕ → Got → Type 0
IsWithin buffer (got.Got n) = n ≤ length buffer
IsWithin buffer got.Failed = Unit {0}

-- a read that failed leaves the buffer as it was
abbrev pub KeepsBuffer : List ℕ → Got → List ℕ → Type 0
KeepsBuffer buffer (got.Got n) filled = Unit {0}
KeepsBuffer buffer got.Failed filled = filled ≡ buffer

-- the first n of the bytes stand in the buffer's front, the rest of it is as before, and the rest of them is left
pub record Fills (bytes buffer : List ℕ) (n : ℕ) (left : Option (List ℕ)) (filled : List ℕ) : Type 0 where
  pub within : n ≤ length bytes
  pub left_over : left ≡ Some (drop n bytes)
  pub front : filled ≡ take n bytes ++ drop n buffer
  pub end : n ≡ 0 → 0 < length buffer → bytes ≡ []

-- what a read does at a source that had these bytes left
abbrev pub Reads : List ℕ → List ℕ → Got → Option (List ℕ) → List ℕ → Type 0
Reads bytes buffer (got.Got n) left filled = Fills bytes buffer n left filled
Reads bytes buffer got.Failed left filled = left ≡ Some bytes

-- of these bytes at most so many were read
abbrev pub ReadsUpTo : ℕ → List ℕ → Option (List ℕ) → Type 0
ReadsUpTo most bytes left = (k : ℕ) × (k ≤ most) × (left ≡ Some (drop k bytes))

-- there were more bytes than the limit, and one more than the limit was read
abbrev pub ReadsPast : ℕ → List ℕ → Option (List ℕ) → Type 0
ReadsPast limit bytes left = (limit < length bytes) × (left ≡ Some (drop (limit + 1) bytes))

-- a reader of the standard library, whether its bytes are told, and how often it failed
pub record Inlet (R : Type 0) : Type 0 where
  pub inner : R
  pub tells : Bool
  pub faults : ℕ

-- what is known of something outside, where that is told
abbrev pub told_if : Bool → Option (List ℕ) → Option (List ℕ)
told_if true known = known
told_if false known = None

-- what a source in memory is: what it has left, the calls that fail, the calls so far, and the faults so far
pub record SourceState : Type 0 where
  pub left : List ℕ
  pub fails : List ℕ
  pub calls : ℕ
  pub faults : ℕ

-- it gives as much as it has and as the buffer holds
abbrev pub GivesWhatFits : SourceState → List ℕ → Got → Type 0
GivesWhatFits s buffer (got.Got n) = n ≡ min (length s.left) (length buffer)
GivesWhatFits s buffer got.Failed = Unit {0}

-- a fault is counted where the read failed, and at no other read
abbrev pub faults_after : ℕ → Got → ℕ
faults_after faults (got.Got n) = faults
faults_after faults got.Failed = one_more faults
