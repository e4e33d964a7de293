-- A run that carries what each seat keeps, so that no history is folded again at each input. S is what a seat keeps.
use Rattle.std.specs.Prelude.{ℕ, suc, zero, cond, List, [], ◌∷◌, ◌++◌, Option, Some, None, slice_get, drop, ◌≡◌, Bool}
use Rattle.fw_base.specs.declared.seat.Seat.{Seat}
use Rattle.fw_base.specs.Seats.{seat_eq}
use Rattle.fw_trace.specs.declared.Input.{Input}
use Rattle.fw_trace.specs.declared.Input.TheVariants.{Heard, Tick, Submitted}
use Rattle.fw_trace.specs.declared.Sent.{Sent}
use Rattle.fw_trace.specs.declared.Logged.{Logged}
use Rattle.fw_trace.specs.Role.{Role, kept, sends}
use Rattle.fw_trace.specs.Trace.{Trace, Rules, Event, Submits, Delivers, Ticks, Lies, history, from_seat, nothing, next_frame}
use Rattle.fw_trace.specs.Run.{World, Step, Submit, Deliver, Flush, Tick_at, Lie}

-- a trace, and what each seat kept after each of its inputs, the newest first
pub record Carried (S M O : Type 0) : Type 0 where
  pub trace : Trace M O
  pub states : List (Seat × S)

-- the role of each seat
abbrev pub Roles : (S M O : Type 0) → Type 0
Roles S M O = Seat → Role S M O

-- what a seat keeps; at first its start
abbrev pub state_of : {S : Type 0} → S → List (Seat × S) → Seat → S
state_of start [] seat = start
state_of start (one ∷ states) seat = cond (seat_eq one.0 seat) one.1 (state_of start states seat)

abbrev pub state_at : {S M O : Type 0} → Roles S M O → Carried S M O → Seat → S
state_at roles c seat = state_of (roles seat).start c.states seat

-- the seat took an input, by which it keeps and sends this
abbrev pub took : {S M O : Type 0} → Carried S M O → Logged M O → S × List (Seat × M) → Carried S M O
took c l next = record {
  trace = record { pool = c.trace.pool ++ from_seat l.seat next.1; log = l ∷ c.trace.log };
  states = (l.seat, next.0) ∷ c.states;
}

abbrev pub takes : {S M O : Type 0} → Roles S M O → Carried S M O → Logged M O → Carried S M O
takes roles c l = took c l ((roles l.seat).next (state_at roles c l.seat) l.input)

abbrev pub delivers : {S M O : Type 0} → Rules M O → Roles S M O → Carried S M O → ℕ → Option (Sent M) → Carried S M O
delivers r roles c k None = c
delivers r roles c k (Some s) =
    cond (r.correct s.to) (takes roles c (record { seat = s.to; input = Heard s.from s.message; frame = Some k })) c

abbrev pub lied : {S M O : Type 0} → Carried S M O → Sent M → Carried S M O
lied c s = record { trace = record { pool = c.trace.pool ++ s ∷ []; log = c.trace.log }; states = c.states }

abbrev pub after : {S M O : Type 0} → Rules M O → Roles S M O → Carried S M O → Event M O → Carried S M O
after r roles c (Submits seat op) = takes roles c (record { seat = seat; input = Submitted op; frame = None })
after r roles c (Delivers k) = delivers r roles c k (slice_get c.trace.pool k)
after r roles c (Ticks seat) = takes roles c (record { seat = seat; input = Tick; frame = None })
after r roles c (Lies s) = lied c s

abbrev pub flushes : {S M O : Type 0} → Rules M O → Roles S M O → ℕ → Carried S M O → Carried S M O
flushes r roles zero c = c
flushes r roles (suc most) c =
    elim (next_frame r c.trace.log 0 c.trace.pool) [
      | None ↦ c
      | Some k ↦ flushes r roles most (after r roles c (Delivers k))
    ]

-- the same, where no frame before this place is still to come
abbrev pub flushes_from : {S M O : Type 0} → Rules M O → Roles S M O → ℕ → ℕ → Carried S M O → Carried S M O
flushes_from r roles zero place c = c
flushes_from r roles (suc most) place c =
    elim (next_frame r c.trace.log place (drop place c.trace.pool)) [
      | None ↦ c
      | Some k ↦ flushes_from r roles most k (after r roles c (Delivers k))
    ]

abbrev pub lies : {S M O : Type 0} → Carried S M O → Option (Sent M) → Carried S M O
lies c None = c
lies c (Some s) = lied c s

abbrev pub does : {S M O L F : Type 0} → World M O L F → Roles S M O → Carried S M O → Step O L → Carried S M O
does w roles c (Submit seat op) = after w.rules roles c (Submits seat op)
does w roles c (Deliver k) = after w.rules roles c (Delivers k)
does w roles c (Flush most) = flushes_from w.rules roles most 0 c
does w roles c (Tick_at seat) = after w.rules roles c (Ticks seat)
does w roles c (Lie l) = lies c (w.lie l c.trace.pool)

abbrev pub run_from : {S M O L F : Type 0} → World M O L F → Roles S M O → Carried S M O → List (Step O L) → Carried S M O
run_from w roles c [] = c
run_from w roles c (step ∷ steps) = run_from w roles (does w roles c step) steps

abbrev pub begin : {S M O : Type 0} → Carried S M O
begin = record { trace = nothing; states = [] }

-- the run of a schedule in a world without faults of its own
abbrev pub run : {S M O L F : Type 0} → World M O L F → Roles S M O → List (Step O L) → Carried S M O
run w roles steps = run_from w roles begin steps

-- ---- what makes it the run by the rules

-- each seat's rule is its role
abbrev pub Follows : {S M O : Type 0} → Rules M O → Roles S M O → Type 0
Follows {M = M} {O} r roles = (seat : Seat) (h : List (Input M O)) → r.rule seat h ≡ sends (roles seat) h

-- no frame is a fault
abbrev pub FailsNever : {M O L F : Type 0} → World M O L F → Type 0
FailsNever {M} w = (lie : Bool) (pool : List (Sent M)) (s : Sent M) → w.fault lie pool s ≡ None

-- each seat keeps what its role says after its history
abbrev pub KeepsAll : {S M O : Type 0} → Roles S M O → Carried S M O → Type 0
KeepsAll roles c = (seat : Seat) → state_at roles c seat ≡ kept (roles seat) (history seat c.trace.log)
