-- A schedule, the events that it stands for, and the run that fails at the first event that isn't allowed.
use Rattle.std.specs.Prelude.{ℕ, suc, zero, Bool, true, false, List, [], ◌∷◌, ◌++◌, map, Option, Some, None, ◌+◌, ◌≡◌, Result, Ok, Err}
use Rattle.fw_base.specs.declared.seat.Seat.{Seat}
use Rattle.fw_trace.specs.declared.Sent.{Sent}
use Rattle.fw_trace.specs.Trace.{Trace, Rules, Event, Submits, Delivers, Ticks, Lies, after, nothing, next_frame, trace_of}
use Rattle.fw_list.specs.Lists.{numbers_from}
use Rattle.fw_trace.specs.Lists.{first_at, front_of, greatest_of}

-- a step of a schedule; L says what a lie is
pub data Step (O L : Type 0) : Type 0 where
  Submit : (seat : Seat) (op : O) → Step O L
  Deliver : (frame : ℕ) → Step O L
  Flush : (most : ℕ) → Step O L
  Tick_at : (seat : Seat) → Step O L
  Lie : (lie : L) → Step O L

-- rules, what each lie appends to a pool, and why a frame may not be appended to it. F are the faults.
pub record World (M O L F : Type 0) : Type 0 where
  pub rules : Rules M O
  pub lie : L → List (Sent M) → Option (Sent M)
  pub fault : Bool → List (Sent M) → Sent M → Option F

-- the first fault of frames that are appended one after another
abbrev pub first_fault : {M F : Type 0} → (List (Sent M) → Sent M → Option F) → List (Sent M) → List (Sent M) → Option F
first_fault fault pool [] = None
first_fault fault pool (s ∷ more) =
    elim (fault pool s) [ Some f ↦ Some f | None ↦ first_fault fault (pool ++ s ∷ []) more ]

-- what an event appended: the pool after it from the end of the pool before it
abbrev pub appended : {A : Type 0} → List A → List A → List A
appended [] new = new
appended (x ∷ old) [] = []
appended (x ∷ old) (y ∷ new) = appended old new

abbrev pub is_lie : {M O : Type 0} → Event M O → Bool
is_lie (Lies s) = true
is_lie _ = false

-- no event of these is a lie
abbrev pub NoLies : {M O : Type 0} → List (Event M O) → Type 0
NoLies [] = Unit {0}
NoLies (e ∷ events) = (is_lie e ≡ false) × NoLies events

-- why an event may not happen
abbrev pub fault_at : {M O L F : Type 0} → World M O L F → Trace M O → Event M O → Option F
fault_at w t e = first_fault (w.fault (is_lie e)) t.pool (appended t.pool (after w.rules t e).pool)

-- the trace so far, or the step and the fault at which the run failed
abbrev pub Outcome : (M O F : Type 0) → Type 0
Outcome M O F = Result (Trace M O) F

abbrev pub happens : {M O L F : Type 0} → World M O L F → Trace M O → Event M O → Outcome M O F
happens w t e = elim (fault_at w t e) [ None ↦ Ok (after w.rules t e) | Some f ↦ Err f ]

abbrev pub flushes : {M O L F : Type 0} → World M O L F → ℕ → Trace M O → Outcome M O F
flushes w zero t = Ok t
flushes w (suc most) t =
    elim (next_frame w.rules t.log 0 t.pool) [
      | None ↦ Ok t
      | Some k ↦ elim (happens w t (Delivers k)) [ Ok next ↦ flushes w most next | Err f ↦ Err f ]
    ]

abbrev pub lies : {M O L F : Type 0} → World M O L F → Trace M O → Option (Sent M) → Outcome M O F
lies w t None = Ok t
lies w t (Some s) = happens w t (Lies s)

abbrev pub does : {M O L F : Type 0} → World M O L F → Trace M O → Step O L → Outcome M O F
does w t (Submit seat op) = happens w t (Submits seat op)
does w t (Deliver k) = happens w t (Delivers k)
does w t (Flush most) = flushes w most t
does w t (Tick_at seat) = happens w t (Ticks seat)
does w t (Lie l) = lies w t (w.lie l t.pool)

-- the run of a schedule from a trace on; a fault has the index of its step
abbrev pub run_from : {M O L F : Type 0} → World M O L F → ℕ → Trace M O → List (Step O L) → Result (Trace M O) (ℕ × F)
run_from w k t [] = Ok t
run_from w k t (step ∷ steps) =
    elim (does w t step) [ Ok next ↦ run_from w (k + 1) next steps | Err f ↦ Err (k, f) ]

abbrev pub run : {M O L F : Type 0} → World M O L F → List (Step O L) → Result (Trace M O) (ℕ × F)
run w steps = run_from w 0 nothing steps

-- no event of these, the newest first, has a fault
abbrev pub IsFair : {M O L F : Type 0} → World M O L F → List (Event M O) → Type 0
IsFair w [] = Unit {0}
IsFair w (e ∷ events) = IsFair w events × (fault_at w (trace_of w.rules events) e ≡ None)

-- it is the trace of such events
abbrev pub Reached : {M O L F : Type 0} → World M O L F → Trace M O → Type 0
Reached {M} {O} w t = (events : List (Event M O)) × IsFair w events × (t ≡ trace_of w.rules events)

-- the entry of the first agreed frame of a number
abbrev pub entry_at : {M E : Type 0} → (M → Option (ℕ × E)) → List (Sent M) → ℕ → Option E
entry_at agreed pool n = first_at (λ s. agreed s.message) pool n

-- the entries of 1, 2, .. up to the first number that has none
abbrev pub agreed_list : {M E : Type 0} → (M → Option (ℕ × E)) → List (Sent M) → List E
agreed_list agreed pool = front_of (map (entry_at agreed pool) (numbers_from 1 (greatest_of (λ s. agreed s.message) pool)))
