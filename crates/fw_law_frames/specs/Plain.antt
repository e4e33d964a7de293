-- Frames of a deployment as they are seen, and means that make and read such frames.
use Rattle.std.specs.Prelude.{ℕ, ◌≡◌, List, length, IsTrue, Some}
use Rattle.fw_list.specs.declared.limits.TheConstants.{BODY_LEN, SIGNATURE_LEN}
use Rattle.fw_base.specs.declared.params.Params.{Params}
use Rattle.fw_base.specs.declared.seat.Seat.{Seat}
use Rattle.fw_base.specs.declared.slot.Slot.{Slot}
use Rattle.fw_base.specs.Places.{slot_fits}
use Rattle.fw_text.specs.Texts.{Text}
use Rattle.fw_op.specs.declared.op.Op.{Op}
use Rattle.fw_op.specs.declared.reply.Reply.{Reply}
use Rattle.fw_trace.specs.Lists.{In}
use Rattle.fw_frame.specs.Ranges.{frame_fits}
use Rattle.fw_frame.specs.Undoing.{frame_in}
use Rattle.fw_frame.specs.View.{Frame, viewed, plain_of}
use Rattle.fw_hand.specs.Hands.{is_own, clients_of}
use Rattle.fw_means.specs.Means.{written}
use Rattle.fw_rules.specs.Means.{Means, Bodies}

-- the plain frame is one of the deployment, all its fields in range, and is seen as this very frame
pub record IsPlain (p : Params) (frame : Frame) : Type 0 where
  pub fits : IsTrue (frame_fits p (plain_of frame))
  pub seen : viewed (plain_of frame) ≡ frame

-- the bytes are such a frame's, and reading gives back what was written
pub record IsRead (p : Params) (bytes : List ℕ) (frame : Frame) : Type 0 where
  pub spelled : bytes ≡ written frame
  pub plain : IsPlain p frame
  pub back : frame_in p bytes ≡ Some (plain_of frame)

-- means that have digests of 32 bytes, that sign each slot of the seat by all its values and join shares to as many, and that read
-- frames of the deployment alone
pub record MakesPlain {M : Type 0} (k : Means M) (seat : Seat) : Type 0 where
  pub hashes : (text : Text) → length (k.hash text) ≡ 32
  pub signs : (slot : Slot) (point : ℕ) (text : Text) → IsTrue (slot_fits k.params slot) → IsTrue (is_own seat slot) → length (k.sign slot point text) ≡ SIGNATURE_LEN
  pub joins : (shares : List (ℕ × List ℕ)) → length (k.join shares) ≡ SIGNATURE_LEN
  pub reads : (m : M) (frame : Frame) → k.read m ≡ Some frame → IsPlain k.params frame

-- bodies of clients whose keys the seat has are whole
pub record SealsWhole (p : Params) (b : Bodies) (seat : Seat) : Type 0 where
  pub ops : (c stamp : ℕ) (op : Op) → In c (clients_of p seat) → length (b.seal_op c stamp op) ≡ BODY_LEN
  pub replies : (c number : ℕ) (reply : Reply) → In c (clients_of p seat) → length (b.seal_reply c number reply) ≡ BODY_LEN
