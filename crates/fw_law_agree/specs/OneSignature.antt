-- One signature: at each slot of a correct owner one text is signed at most, and liars know, and frames show, only its side of each bit.
use Rattle.std.specs.Prelude.{◌≡◌, ℕ, List, Some, IsTrue}
use Rattle.fw_base.specs.declared.seat.Seat.{Seat}
use Rattle.fw_base.specs.declared.slot.Slot.{Slot}
use Rattle.fw_base.specs.declared.slot.Place.{Place}
use Rattle.fw_base.specs.Places.{owner}
use Rattle.fw_text.specs.Texts.{Text, hash}
use Rattle.fw_text.specs.Bits.{bit_of}
use Rattle.fw_op.specs.declared.op.Op.{Op}
use Rattle.fw_step.specs.Fitting.{is_correct}
use Rattle.fw_trace.specs.declared.Sent.{Sent}
use Rattle.fw_trace.specs.Lists.{In}
use Rattle.fw_trace.specs.Trace.{Trace}
use Rattle.fw_frame.specs.Parts.{with_digest}
use Rattle.fw_frame.specs.declared.shown.Shown.{Shown}
use Rattle.fw_directory.specs.Directories.{PlainDirectory}
use Rattle.fw_fair.specs.Showing.{shown_in}
use Rattle.fw_fair.specs.Faults.{Pool, knows, kept}
use Rattle.fw_fair.specs.Hostile.{Hostile}
use Rattle.fw_law_agree.specs.Signed.{Signed}

-- bytes show a place: a value that they carry for it has its digest
abbrev pub Shows : PlainDirectory → List ℕ → Place → Type 0
Shows d bytes place = (pair : Shown) × In pair (shown_in d bytes) × (pair.place ≡ place)

-- a pooled frame shows it
abbrev pub IsShown : PlainDirectory → Pool → Place → Type 0
IsShown d pool place = (s : Sent (List ℕ)) × In s pool × Shows d s.message place

-- a seat has signed a text at the place's slot, the place is on its side, and the text is among those that the pool keeps
pub record IsOnSigned (w : Hostile) (t : Trace (List ℕ) Op) (seat : Seat) (place : Place) : Type 0 where
  pub text : Text
  pub signed : Signed w t seat place.slot text
  pub side : place.side ≡ bit_of (hash text) place.bit
  pub kept : In (with_digest hash text) (kept w.deal.origin w.directory t.pool)

-- the slot is a correct seat's
pub record IsOwned (w : Hostile) (slot : Slot) (seat : Seat) : Type 0 where
  pub owned : owner slot ≡ Some seat
  pub correct : IsTrue (is_correct w.directory.params w.faulty seat)

pub record OneSignature (w : Hostile) (t : Trace (List ℕ) Op) : Type 0 where
  pub once : (slot : Slot) (seat : Seat) (one other : Text) → IsOwned w slot seat → Signed w t seat slot one → Signed w t seat slot other → one ≡ other
  pub known : (place : Place) (seat : Seat) → IsOwned w place.slot seat → IsTrue (knows w.directory w.faulty t.pool place) → IsOnSigned w t seat place
  pub shown : (place : Place) (seat : Seat) → IsOwned w place.slot seat → IsShown w.directory t.pool place → IsOnSigned w t seat place
