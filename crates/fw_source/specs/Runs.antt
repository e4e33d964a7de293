-- What a schedule's steps have, the events of its run have.
use Rattle.std.specs.Prelude.{ℕ, ◌≡◌, Bool, true, false, List, Some}
use Rattle.std.specs.List.{AllByRecursion}
use Rattle.fw_base.specs.declared.seat.Seat.{Seat}
use Rattle.fw_trace.specs.declared.Sent.{Sent}
use Rattle.fw_trace.specs.Trace.{Trace, Event, Submits, Delivers, Ticks, Lies, trace_of}
use Rattle.fw_trace.specs.Run.{Step, Submit, Deliver, Flush, Tick_at, Lie, World, IsFair}

-- what comes of a step that has Q has P, and each delivery has P
pub record Carries {M O L F : Type 0} (w : World M O L F) (Q : Step O L → Type 0) (P : Event M O → Type 0) : Type 0 where
  pub submits : (seat : Seat) (op : O) → Q (Submit seat op) → P (Submits seat op)
  pub delivers : (k : ℕ) → P (Delivers k)
  pub ticks : (seat : Seat) → Q (Tick_at seat) → P (Ticks seat)
  pub lies : (l : L) (pool : List (Sent M)) (s : Sent M) → Q (Lie l) → w.lie l pool ≡ Some s → P (Lies s)

-- it is the trace of events without faults that all have P
abbrev pub ReachedBy : {M O L F : Type 0} → World M O L F → (Event M O → Type 0) → Trace M O → Type 0
ReachedBy {M} {O} w P t = (events : List (Event M O)) × IsFair w events × AllByRecursion P events × (t ≡ trace_of w.rules events)

-- a property by a test, over which a clause may range
abbrev pub Passes : {A : Type 0} → (A → Bool) → A → Type 0
Passes test x = test x ≡ true

-- if the step is a lie, it is in the name of another seat than these, whatever the pool is
abbrev pub TellsNoLieOf : {M O L F : Type 0} → World M O L F → (Seat → Bool) → Step O L → Type 0
TellsNoLieOf w who (Submit seat op) = Unit {0}
TellsNoLieOf w who (Deliver k) = Unit {0}
TellsNoLieOf w who (Flush most) = Unit {0}
TellsNoLieOf w who (Tick_at seat) = Unit {0}
TellsNoLieOf {M} w who (Lie l) = (pool : List (Sent M)) (s : Sent M) → w.lie l pool ≡ Some s → who s.from ≡ false
