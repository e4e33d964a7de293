-- What befalls a seat: as an input that is logged, and as an event.
use Rattle.std.specs.Prelude.{ℕ, ◌<◌, List, length, IsTrue, slice_get}
use Rattle.fw_op.specs.declared.op.Op.{Op}
use Rattle.fw_op.specs.Ops.{op_fits}
use Rattle.fw_trace.specs.declared.Logged.{Logged}
use Rattle.fw_trace.specs.Trace.{Event, Submits, Delivers, Ticks}
use Rattle.fw_pool.specs.Notes.{Frames, delivery, ticked, submitted}
use Rattle.fw_grid.specs.declared.cause.Cause.{Cause}
use Rattle.fw_grid.specs.declared.cause.Cause.TheVariants as causes

abbrev pub logged_by : Frames → Cause → Logged (List ℕ) Op
logged_by frames (causes.Frame k) = delivery k (slice_get frames k)
logged_by frames (causes.Tick seat) = ticked seat
logged_by frames (causes.Submit seat op) = submitted seat op.now

abbrev pub event_of : Cause → Event (List ℕ) Op
event_of (causes.Frame k) = Delivers k
event_of (causes.Tick seat) = Ticks seat
event_of (causes.Submit seat op) = Submits seat op.now

-- there is such a frame; and an operation can be asked
abbrev pub CanCome : Frames → Cause → Type 0
CanCome frames (causes.Frame k) = k < length frames
CanCome frames (causes.Tick seat) = Unit {0}
CanCome frames (causes.Submit seat op) = IsTrue (op_fits 8 op.now)
