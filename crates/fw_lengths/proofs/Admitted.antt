-- Bytes that were admitted are a frame of the deployment, from one of its seats, and can be sent on.
use Rattle.std.proofs.Common.{◌≡◌, ℕ, ◌&&◌, List, Option, Some, None, refl, sym, subst, IsTrue}
use Rattle.std.specs.Prelude.{IfSome, option_and_then}
use Rattle.std.proofs.lemmas.Bool.{and_parts}
use Rattle.std.proofs.lemmas.Option.{none-some, same_Some}
use Rattle.fw_base.specs.declared.params.Params.{Params}
use Rattle.fw_base.specs.declared.seat.Seat.{Seat}
use Rattle.fw_base.specs.Sizes.{accepted}
use Rattle.fw_base.specs.Seats.{fits, linked}
use Rattle.fw_frame.specs.Frames.{PlainFrame}
use Rattle.fw_frame.specs.Ranges.{frame_fits}
use Rattle.fw_frame.specs.Spelling.{frame_bytes}
use Rattle.fw_frame.specs.Undoing.{frame_in}
use Rattle.fw_frame.specs.View.{Frame, viewed}
use Rattle.fw_frame.proofs.Undoing.{frame_in-only}
use Rattle.fw_directory.specs.Directories.{PlainDirectory}
use Rattle.fw_means.specs.Means.{is_valid, if_valid, valid_in, admitted_by}
use Rattle.fw_lengths.specs.Lengths.{HasFrameLength}
use Rattle.fw_lengths.proofs.Pieces.{IsShort, IsForClients}
use Rattle.fw_lengths.proofs.Short.{viewed-short, viewed-clients, frame_short}
use Rattle.fw_lengths.proofs.Options.{when-some, always-if, made-if}

-- what is seen of the frame that they are, and that they are its bytes
pub record Shows (p : Params) (bytes : List ℕ) (v : Frame) : Type 0 where
  pub frame : PlainFrame
  pub seen : viewed frame ≡ v
  pub spelled : bytes ≡ frame_bytes frame
  pub fits : IsTrue (frame_fits p frame)

some-shows : (d : PlainDirectory) (bytes : List ℕ) (o : Option PlainFrame) → frame_in d.params bytes ≡ o → (v : Frame) → option_and_then (if_valid d) o ≡ Some v → Shows d.params bytes v
some-shows d bytes None is v e = absurd (none-some v e)
some-shows d bytes (Some f) is v e =
    let found = (when-some (is_valid d f) (Some (viewed f)) v e).1 in
    let known = frame_in-only d.params bytes f is in
    record { frame = f; seen = same_Some (viewed f) v found; spelled = known.spelled; fits = known.fits }

pub valid-shows : (d : PlainDirectory) (bytes : List ℕ) (v : Frame) → valid_in d bytes ≡ Some v → Shows d.params bytes v
valid-shows d bytes v e = some-shows d bytes (frame_in d.params bytes) refl v e

-- a valid frame has short pieces
pub valid-short : (d : PlainDirectory) (bytes : List ℕ) (v : Frame) → valid_in d bytes ≡ Some v → IsShort d.params v
valid-short d bytes v e =
    let shown = valid-shows d bytes v e in
    subst (IsShort d.params) shown.seen (viewed-short d.params shown.frame shown.fits)

-- and is for clients of the deployment, where it is a reply
pub valid-clients : (d : PlainDirectory) (bytes : List ℕ) (v : Frame) → valid_in d bytes ≡ Some v → IsForClients d.params v
valid-clients d bytes v e =
    let shown = valid-shows d bytes v e in
    subst (IsForClients d.params) shown.seen (viewed-clients d.params shown.frame shown.fits)

-- ---- from a seat

-- what was admitted is a valid frame, and the seat is one of the deployment
admitted-is : (d : PlainDirectory) (own from : Seat) (bytes : List ℕ) (v : Frame) → admitted_by d own from bytes ≡ Some v → IsTrue (fits d.params from) × (valid_in d bytes ≡ Some v)
admitted-is d own from bytes v e =
    let found = when-some (fits d.params from && linked d.params from own) (valid_in d bytes) v e in
    ((and_parts (fits d.params from) (linked d.params from own) found.0).0, found.1)

pub admitted-shows : (d : PlainDirectory) (own from : Seat) (bytes : List ℕ) (v : Frame) → admitted_by d own from bytes ≡ Some v → IsTrue (fits d.params from) × Shows d.params bytes v
admitted-shows d own from bytes v e = let is = admitted-is d own from bytes v e in (is.0, valid-shows d bytes v is.1)

-- bytes that were admitted can be sent on
pub admitted_short : (d : PlainDirectory) (own from : Seat) (bytes : List ℕ) (v : Frame) → IsTrue (accepted d.params) → admitted_by d own from bytes ≡ Some v → HasFrameLength bytes
admitted_short d own from bytes v sizes e =
    let shown = (admitted-shows d own from bytes v e).1 in
    subst HasFrameLength (sym shown.spelled) (frame_short d.params shown.frame sizes shown.fits)

-- ---- what a rule makes of bytes from a seat, where they are admitted

-- whatever it makes of them, they came from a seat of the deployment and can be sent on
pub made-sendable : {A : Type 0} (d : PlainDirectory) (own from : Seat) (bytes : List ℕ) (means : Frame → Option A) → IsTrue (accepted d.params)
    → IfSome (option_and_then means (admitted_by d own from bytes)) (λ _. IsTrue (fits d.params from) × HasFrameLength bytes)
made-sendable d own from bytes means sizes =
    made-if means (λ _. IsTrue (fits d.params from) × HasFrameLength bytes) (admitted_by d own from bytes)
    (λ v e. always-if (IsTrue (fits d.params from) × HasFrameLength bytes) (means v) ((admitted-is d own from bytes v e).0, admitted_short d own from bytes v sizes e))

-- what it makes of short pieces it makes of them
pub made-short : {A : Type 0} (d : PlainDirectory) (own from : Seat) (bytes : List ℕ) (means : Frame → Option A) (Q : A → Type 0) → ((v : Frame) → IsShort d.params v → IfSome (means v) Q)
    → IfSome (option_and_then means (admitted_by d own from bytes)) Q
made-short d own from bytes means Q each =
    made-if means Q (admitted_by d own from bytes) (λ v e. each v (valid-short d bytes v (admitted-is d own from bytes v e).1))
