-- Where the signatures come from that a seat sends: it made them, or they stood in frames that it heard.
use Rattle.std.specs.Prelude.{ℕ, ◌≡◌, ◌⊎◌, List, [], ◌∷◌, Some}
use Rattle.fw_base.specs.declared.seat.Seat.{Seat}
use Rattle.fw_trace.specs.declared.Input.{Input}
use Rattle.fw_trace.specs.Lists.{In}
use Rattle.fw_frame.specs.Parts.{Part, parts}
use Rattle.fw_frame.specs.View.{Request, Agreed, Share, Reply, Frame, Asks, Agrees, Shares, Replies, Wants, plain_of}
use Rattle.fw_rules.specs.Means.{Means}
use Rattle.fw_rules.specs.Choices.{admitted}
use Rattle.fw_law_filter.specs.Heard.{WasHeard}

-- the signatures and lists of shares of a frame
abbrev pub parts_of : {M : Type 0} → Means M → Frame → List Part
parts_of k frame = parts k.params k.hash (plain_of frame)

-- ---- kinds of frames

abbrev pub IsRequestFrame : Frame → Type 0
IsRequestFrame frame = (r : Request) × (frame ≡ Asks r)

abbrev pub IsAgreedFrame : Frame → Type 0
IsAgreedFrame frame = (a : Agreed) × (frame ≡ Agrees a)

abbrev pub IsShareFrame : Frame → Type 0
IsShareFrame frame = (s : Share) × (frame ≡ Shares s)

abbrev pub IsReplyFrame : Frame → Type 0
IsReplyFrame frame = (r : Reply) × (frame ≡ Replies r)

abbrev pub IsWantFrame : Frame → Type 0
IsWantFrame frame = (n : ℕ) × (frame ≡ Wants n)

abbrev pub IsAgreedOrReplyFrame : Frame → Type 0
IsAgreedOrReplyFrame frame = IsAgreedFrame frame ⊎ IsReplyFrame frame

-- ---- what it has heard

-- one of them, of the admitted frame that a message from a seat is to this seat
pub record IsHeard {M : Type 0} (k : Means M) (me : Seat) (part : Part) (from : Seat) (m : M) : Type 0 where
  pub frame : Frame
  pub read : admitted k me from m ≡ Some frame
  pub among : In part (parts_of k frame)

-- this very message, which is an admitted frame of this kind
pub record IsPassed {M : Type 0} (k : Means M) (me : Seat) (Kind : Frame → Type 0) (sent : M) (from : Seat) (m : M) : Type 0 where
  pub same : m ≡ sent
  pub frame : Frame
  pub read : admitted k me from m ≡ Some frame
  pub kind : Kind frame

-- ---- what it sends

-- a message that is a frame of this kind, whose one part it made
pub record IsMade {M : Type 0} (k : Means M) (Kind : Frame → Type 0) (Own : Part → Type 0) (m : M) : Type 0 where
  pub frame : Frame
  pub written : m ≡ k.write frame
  pub kind : Kind frame
  pub part : Part
  pub one : parts_of k frame ≡ part ∷ []
  pub own : Own part

-- a message that is a frame of this kind, without a part
pub record IsBare {M : Type 0} (k : Means M) (Kind : Frame → Type 0) (m : M) : Type 0 where
  pub frame : Frame
  pub written : m ≡ k.write frame
  pub kind : Kind frame
  pub bare : parts_of k frame ≡ []

-- a message that is a frame each of whose parts it made or heard
pub record IsSourced {M O : Type 0} (k : Means M) (me : Seat) (Own : Part → Type 0) (h : List (Input M O)) (m : M) : Type 0 where
  pub frame : Frame
  pub written : m ≡ k.write frame
  pub sourced : (part : Part) → In part (parts_of k frame) → Own part ⊎ WasHeard (IsHeard k me part) h

-- such a frame, or a message that it passes on as it heard it
abbrev pub IsSourcedOrPassed : {M O : Type 0} → Means M → Seat → (Part → Type 0) → (Frame → Type 0) → List (Input M O) → M → Type 0
IsSourcedOrPassed k me Own Kind h m = IsSourced k me Own h m ⊎ WasHeard (IsPassed k me Kind m) h

-- a message that is a valid frame of this kind, each of whose parts it heard
pub record IsWhollyHeard {M O : Type 0} (k : Means M) (me : Seat) (Kind : Frame → Type 0) (h : List (Input M O)) (m : M) : Type 0 where
  pub frame : Frame
  pub read : k.read m ≡ Some frame
  pub kind : Kind frame
  pub heard : (part : Part) → In part (parts_of k frame) → WasHeard (IsHeard k me part) h
