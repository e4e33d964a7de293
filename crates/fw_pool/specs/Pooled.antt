-- What is seen of a pool, and what it keeps.
use Rattle.std.specs.Prelude.{◌≡◌, ℕ, ◌≤◌, ◌<◌, Bool, false, List, ◌∷◌, ◌++◌, length, All, Option, None, IsTrue}
use Rattle.fw_base.specs.declared.params.Params.{Params}
use Rattle.fw_base.specs.declared.seat.Seat.{Seat}
use Rattle.fw_base.specs.Sizes.{accepted}
use Rattle.fw_op.specs.declared.op.Op.{Op}
use Rattle.fw_step.specs.Fitting.{is_correct}
use Rattle.fw_trace.specs.declared.Logged.{Logged}
use Rattle.fw_trace.specs.Trace.{Trace, from_seat, was_delivered}
use Rattle.fw_trace.specs.Run.{first_fault}
use Rattle.fw_node.specs.Histories.{Out}
use Rattle.fw_rules.specs.World.{over, bytes_of}
use Rattle.fw_rules.specs.declared.limits.Which.{Which}
use Rattle.fw_rules.specs.declared.limits.TheConstants.{MOST_FRAMES, MOST_BYTES}
use Rattle.fw_pool.specs.declared.note.Note.{Note}
use Rattle.fw_pool.specs.Notes.{Frames, IsWithin, log_of}
use Rattle.fw_pool.specs.Due.{due_at, is_marked}

-- the sizes of the deployment, its faulty seats, and the trace so far
pub record Pooled : Type 0 where
  pub params : Params
  pub faulty : List Seat
  pub trace : Trace (List ℕ) Op

-- whether a seat is one of the deployment that isn't faulty
abbrev pub correct_in : Pooled → Seat → Bool
correct_in p seat = is_correct p.params p.faulty seat

-- a seat takes an input, and sends these frames on it
abbrev pub enters : Trace (List ℕ) Op → Logged (List ℕ) Op → Out → Trace (List ℕ) Op
enters t l out = record { pool = t.pool ++ from_seat l.seat out; log = l ∷ t.log }

-- which limit the first of a seat's frames passes that passes one
abbrev pub over_of : Trace (List ℕ) Op → Seat → Out → Option Which
over_of t seat out = first_fault over t.pool (from_seat seat out)

-- there is room for these frames, whoever sends them
abbrev pub HasRoom : Trace (List ℕ) Op → Out → Type 0
HasRoom t out = (seat : Seat) → over_of t seat out ≡ None

-- the log names frames of the pool; the marks say which were delivered; no frame before the cursor is due; the limits are kept
pub record Holds (p : Params) (faulty : List Seat) (frames : Frames) (marks : List Bool) (log : List Note) (due bytes : ℕ) : Type 0 where
  pub sizes : IsTrue (accepted p)
  pub within : All (IsWithin (length frames)) log
  pub count : length marks ≡ length frames
  pub marked : (k : ℕ) → is_marked marks k ≡ was_delivered (log_of frames log) k
  pub cursor : due ≤ length frames
  pub passed : (k : ℕ) → k < due → due_at (is_correct p faulty) marks frames k ≡ false
  pub sum : bytes ≡ bytes_of frames
  pub few : length frames ≤ MOST_FRAMES
  pub small : bytes ≤ MOST_BYTES
