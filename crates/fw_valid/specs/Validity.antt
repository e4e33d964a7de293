-- Which frames are valid in a directory, and which places a frame shows.
use Rattle.std.specs.Prelude.{Bool, List, All, bytes_eq, filter}
use Rattle.fw_text.specs.Texts.{hash, Value}
use Rattle.fw_lamport.specs.Signature.{IsValid}
use Rattle.fw_frame.specs.Frames.{PlainFrame}
use Rattle.fw_frame.specs.Parts.{PlainPart, digested_parts}
use Rattle.fw_frame.specs.declared.shown.Shown.{Shown}
use Rattle.fw_directory.specs.Directories.{PlainDirectory, digest_at, row_at}

-- a signature or a list of shares is valid: each of its values has, with its place, the directory's digest on the side of
-- that bit of the digest that is signed
abbrev pub IsValidPart : PlainDirectory → PlainPart → Type 0
IsValidPart d part = IsValid (row_at d part.slot part.point) part.slot part.point part.digest part.values

-- a frame is valid where each of its parts is
abbrev pub IsValidFrame : PlainDirectory → PlainFrame → Type 0
IsValidFrame d frame = All (IsValidPart d) (digested_parts d.params hash frame)

-- a value is shown where it has its place's digest
abbrev pub is_shown : PlainDirectory → Shown → Bool
is_shown d pair = bytes_eq (hash (Value pair.place pair.value)) (digest_at d pair.place)

abbrev pub shown : PlainDirectory → List Shown → List Shown
shown d carried = filter (is_shown d) carried
