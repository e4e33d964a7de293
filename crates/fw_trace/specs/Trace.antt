-- What a world of seats has seen so far, whatever its messages M and its operations O are.
use Rattle.std.specs.Prelude.{ℕ, Bool, true, false, cond, nat_eq, List, [], ◌∷◌, ◌++◌, Option, Some, None, slice_get, ◌≡◌, ◌+◌, ◌||◌, ◌&&◌, not, IsTrue, filter}
use Rattle.fw_base.specs.declared.seat.Seat.{Seat}
use Rattle.fw_base.specs.Seats.{seat_eq, below}
use Rattle.fw_trace.specs.declared.Input.{Input}
use Rattle.fw_trace.specs.declared.Input.TheVariants.{Heard, Tick, Submitted}
use Rattle.fw_trace.specs.declared.Sent.{Sent}
use Rattle.fw_trace.specs.declared.Logged.{Logged}

-- all that was sent, in order; and what was taken, the newest first
pub record Trace (M O : Type 0) : Type 0 where
  pub pool : List (Sent M)
  pub log : List (Logged M O)

-- the inputs of one seat, the newest first
abbrev pub history : {M O : Type 0} → Seat → List (Logged M O) → List (Input M O)
history seat [] = []
history seat (l ∷ log) = cond (seat_eq l.seat seat) (l.input ∷ history seat log) (history seat log)

-- who is correct, and what each correct seat sends on the newest input of a history
pub record Rules (M O : Type 0) : Type 0 where
  pub correct : Seat → Bool
  pub rule : Seat → List (Input M O) → List (Seat × M)

-- one step of the world
pub data Event (M O : Type 0) : Type 0 where
  Submits : (seat : Seat) (op : O) → Event M O
  Delivers : (frame : ℕ) → Event M O
  Ticks : (seat : Seat) → Event M O
  Lies : (sent : Sent M) → Event M O

abbrev pub from_seat : {M : Type 0} → Seat → List (Seat × M) → List (Sent M)
from_seat seat [] = []
from_seat seat (o ∷ out) = record { from = seat; to = o.0; message = o.1 } ∷ from_seat seat out

-- the seat takes an input, and sends what its rule says
abbrev pub takes : {M O : Type 0} → Rules M O → Trace M O → Logged M O → Trace M O
takes r t l = record {
  pool = t.pool ++ from_seat l.seat (r.rule l.seat (history l.seat (l ∷ t.log)));
  log = l ∷ t.log;
}

abbrev pub delivers : {M O : Type 0} → Rules M O → Trace M O → ℕ → Option (Sent M) → Trace M O
delivers r t k None = t
delivers r t k (Some s) =
    cond (r.correct s.to) (takes r t (record { seat = s.to; input = Heard s.from s.message; frame = Some k })) t

abbrev pub after : {M O : Type 0} → Rules M O → Trace M O → Event M O → Trace M O
after r t (Submits seat op) = takes r t (record { seat = seat; input = Submitted op; frame = None })
after r t (Delivers k) = delivers r t k (slice_get t.pool k)
after r t (Ticks seat) = takes r t (record { seat = seat; input = Tick; frame = None })
after r t (Lies s) = record { pool = t.pool ++ s ∷ []; log = t.log }

abbrev pub nothing : {M O : Type 0} → Trace M O
nothing = record { pool = []; log = [] }

-- the trace of these events, the newest of them first
abbrev pub trace_of : {M O : Type 0} → Rules M O → List (Event M O) → Trace M O
trace_of r [] = nothing
trace_of r (e ∷ events) = after r (trace_of r events) e

-- whether the pooled frame at this place was delivered
abbrev pub is_frame : ℕ → Option ℕ → Bool
is_frame k None = false
is_frame k (Some j) = nat_eq j k

abbrev pub was_delivered : {M O : Type 0} → List (Logged M O) → ℕ → Bool
was_delivered [] k = false
was_delivered (l ∷ log) k = is_frame k l.frame || was_delivered log k

-- each frame between correct seats was delivered at least once
abbrev pub IsAtRest : {M O : Type 0} → Rules M O → Trace M O → Type 0
IsAtRest {M} r t =
    (k : ℕ) (s : Sent M) → slice_get t.pool k ≡ Some s → IsTrue (r.correct s.from) → IsTrue (r.correct s.to) → IsTrue (was_delivered t.log k)

-- the same as a test, from place k on
abbrev pub rests_from : {M O : Type 0} → Rules M O → List (Logged M O) → ℕ → List (Sent M) → Bool
rests_from r log k [] = true
rests_from r log k (s ∷ pool) = (not (r.correct s.from && r.correct s.to) || was_delivered log k) && rests_from r log (k + 1) pool

-- the first frame to a correct seat, from place k on, that was never delivered
abbrev pub next_frame : {M O : Type 0} → Rules M O → List (Logged M O) → ℕ → List (Sent M) → Option ℕ
next_frame r log k [] = None
next_frame r log k (s ∷ pool) =
    elim (r.correct s.to && not (was_delivered log k)) [ true ↦ Some k | false ↦ next_frame r log (k + 1) pool ]

-- what a seat sent downwards
abbrev pub crossing : {M : Type 0} → (Seat → Bool) → List (Sent M) → List (Sent M)
crossing in_row pool = filter (λ s. in_row s.from && below s.from s.to) pool
