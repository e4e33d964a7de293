-- What the rules need, as functions of the directory and of a hand: which frames are valid, what a hand signs, the values of a reply
-- from shares, and bodies by the keys of a hand.
use Rattle.std.specs.Prelude.{ℕ, Bool, true, false, ◌&&◌, List, [], map, length, slice_index, Option, Some, None, option_and_then, bytes_eq}
use Rattle.std.specs.List.{list_all, flat_map}
use Rattle.fw_list.specs.Lists.{numbers_from}
use Rattle.fw_list.specs.declared.limits.TheConstants.{SIGNATURE_LEN}
use Rattle.fw_base.specs.declared.seat.Seat.{Seat}
use Rattle.fw_base.specs.Seats.{fits, linked}
use Rattle.fw_base.specs.declared.slot.Slot.{Slot}
use Rattle.fw_text.specs.Texts.{Text, Value, hash}
use Rattle.fw_text.specs.Bits.{place_on, value_at}
use Rattle.fw_lamport.specs.Signature.{side_of}
use Rattle.fw_shamir.specs.declared.sharing.Point.{Point}
use Rattle.fw_shamir.specs.Steps.{interpolated}
use Rattle.fw_seal.specs.declared.types.BodyKey.{BodyKey}
use Rattle.fw_seal.specs.declared.types.Direction.{Direction}
use Rattle.fw_seal.specs.Seal.{sealed, opened}
use Rattle.fw_frame.specs.Frames.{PlainFrame}
use Rattle.fw_frame.specs.Parts.{PlainPart, digested_parts}
use Rattle.fw_frame.specs.Spelling.{frame_bytes}
use Rattle.fw_frame.specs.Undoing.{frame_in}
use Rattle.fw_frame.specs.View.{Frame, viewed, plain_of}
use Rattle.fw_directory.specs.Directories.{PlainDirectory, row_at}
use Rattle.fw_hand.specs.Hands.{PlainHand, values_in}

-- a value, where a test holds
abbrev pub when : {A : Type 0} → Bool → Option A → Option A
when true x = x
when false x = None

-- ---- signatures

-- the value of a slot on the side of a bit of a digest; none where the slot isn't the hand's
abbrev pub value_of_bit : Option (List ℕ) → List ℕ → ℕ → List ℕ
value_of_bit None digest b = []
value_of_bit (Some values) digest b = value_at values (side_of digest b)

-- what a hand makes of a digest: the value of each bit in turn
unfoldable pub signed_by : PlainHand → Slot → List ℕ → List ℕ
signed_by hand slot digest = flat_map (value_of_bit (values_in hand.held slot) digest) (numbers_from 0 256)

abbrev pub signature_by : PlainHand → Slot → ℕ → Text → List ℕ
signature_by hand slot point text = signed_by hand slot (hash text)

-- value b of a part has its digest, with its place, in the directory
abbrev pub is_listed : PlainDirectory → PlainPart → ℕ → Bool
is_listed d part b =
    bytes_eq (hash (Value (place_on part.slot part.point part.digest b) (value_at part.values b)))
    (value_at (row_at d part.slot part.point) (side_of part.digest b))

abbrev pub is_valid_part : PlainDirectory → PlainPart → Bool
is_valid_part d part = list_all (is_listed d part) (numbers_from 0 256)

abbrev pub is_valid : PlainDirectory → PlainFrame → Bool
is_valid d frame = list_all (is_valid_part d) (digested_parts d.params hash frame)

-- the frame that bytes are, where it is valid
abbrev pub if_valid : PlainDirectory → PlainFrame → Option Frame
if_valid d frame = when (is_valid d frame) (Some (viewed frame))

abbrev pub valid_in : PlainDirectory → List ℕ → Option Frame
valid_in d bytes = option_and_then (if_valid d) (frame_in d.params bytes)

-- the same of bytes from a seat, where it is one of the deployment and linked with this seat
abbrev pub admitted_by : PlainDirectory → Seat → Seat → List ℕ → Option Frame
admitted_by d own from bytes = when (fits d.params from && linked d.params from own) (valid_in d bytes)

-- the bytes of a frame
abbrev pub written : Frame → List ℕ
written frame = frame_bytes (plain_of frame)

-- ---- a reply's values from shares: at each byte the value at 0 of the polynomial through the points

abbrev pub point_in : ℕ → ℕ × List ℕ → Point
point_in j share = record { at = share.0; value = slice_index share.1 j }

abbrev pub joined_byte : List (ℕ × List ℕ) → ℕ → ℕ
joined_byte shares j = interpolated (length shares) 0 (map (point_in j) shares)

unfoldable pub joined_values : List (ℕ × List ℕ) → List ℕ
joined_values shares = map (joined_byte shares) (numbers_from 0 SIGNATURE_LEN)

-- ---- bodies, by the keys that a hand has

abbrev pub sealed_by : Option BodyKey → Direction → ℕ → ℕ → List ℕ → List ℕ
sealed_by None direction client number text = []
sealed_by (Some key) direction client number text = sealed key direction client number text

abbrev pub opened_by : Option BodyKey → Direction → ℕ → ℕ → List ℕ → Option (List ℕ)
opened_by None direction client number body = None
opened_by (Some key) direction client number body = opened key direction client number body
