-- Genuine signatures: each that stands in a pooled valid frame, at a slot of a correct owner, is on a text that the owner has signed.
use Rattle.std.specs.Prelude.{◌≡◌, ℕ, List, Some}
use Rattle.fw_base.specs.declared.seat.Seat.{Seat}
use Rattle.fw_text.specs.Texts.{hash}
use Rattle.fw_op.specs.declared.op.Op.{Op}
use Rattle.fw_trace.specs.declared.Sent.{Sent}
use Rattle.fw_trace.specs.Lists.{In}
use Rattle.fw_trace.specs.Trace.{Trace}
use Rattle.fw_frame.specs.Parts.{Part, parts}
use Rattle.fw_frame.specs.View.{Frame, plain_of}
use Rattle.fw_means.specs.Means.{valid_in}
use Rattle.fw_fair.specs.Hostile.{Hostile}
use Rattle.fw_law_agree.specs.Signed.{Signed}
use Rattle.fw_law_agree.specs.OneSignature.{IsOwned}

-- a signature of a pooled message that is a valid frame
pub record IsPooledPart (w : Hostile) (t : Trace (List ℕ) Op) (part : Part) : Type 0 where
  pub sent : Sent (List ℕ)
  pub pooled : In sent t.pool
  pub frame : Frame
  pub read : valid_in w.directory sent.message ≡ Some frame
  pub among : In part (parts w.directory.params hash (plain_of frame))

abbrev pub Genuine : Hostile → Trace (List ℕ) Op → Type 0
Genuine w t = (part : Part) (seat : Seat) → IsOwned w part.slot seat → IsPooledPart w t part → Signed w t seat part.slot part.text
