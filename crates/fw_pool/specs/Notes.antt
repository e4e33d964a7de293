-- What the notes of a log stand for, over the frames of a pool.
use Rattle.std.specs.Prelude.{ℕ, ◌<◌, List, map, Option, None, Some, slice_get}
use Rattle.fw_base.specs.declared.seat.Seat.{Seat}
use Rattle.fw_base.specs.declared.seat.Seat.TheVariants as seats
use Rattle.fw_op.specs.declared.op.Op.{Op}
use Rattle.fw_trace.specs.declared.Input.TheVariants.{Heard, Tick, Submitted}
use Rattle.fw_trace.specs.declared.Sent.{Sent}
use Rattle.fw_trace.specs.declared.Logged.{Logged}
use Rattle.fw_pool.specs.declared.note.Note.{Note}
use Rattle.fw_pool.specs.declared.note.Note.TheVariants as notes

-- frames on their way or arrived, in order; and inputs that were taken, the newest first
abbrev pub Frames : Type 0
Frames = List (Sent (List ℕ))

abbrev pub Log : Type 0
Log = List (Logged (List ℕ) Op)

-- the frame at a place came to its addressee; a log has no place of no frame
abbrev pub delivery : ℕ → Option (Sent (List ℕ)) → Logged (List ℕ) Op
delivery k (Some s) = record { seat = s.to; input = Heard s.from s.message; frame = Some k }
delivery k None = record { seat = seats.Agree 0; input = Tick; frame = Some k }

-- the seat's clock ticked, or its user submitted an operation
abbrev pub ticked : Seat → Logged (List ℕ) Op
ticked seat = record { seat = seat; input = Tick; frame = None }

abbrev pub submitted : Seat → Op → Logged (List ℕ) Op
submitted seat op = record { seat = seat; input = Submitted op; frame = None }

abbrev pub logged : Frames → Note → Logged (List ℕ) Op
logged frames (notes.Delivery k) = delivery k (slice_get frames k)
logged frames (notes.Tick seat) = ticked seat
logged frames (notes.Submission seat op) = submitted seat op

abbrev pub log_of : Frames → List Note → Log
log_of frames log = map (logged frames) log

-- the place of the frame that came
abbrev pub place_of : Note → Option ℕ
place_of (notes.Delivery k) = Some k
place_of _ = None

-- the frame of a note is one of so many
abbrev pub IsWithin : ℕ → Note → Type 0
IsWithin count (notes.Delivery k) = k < count
IsWithin count _ = Unit {0}
