-- Fair events of a deployment some of whose seats are faulty.
use Rattle.std.specs.Prelude.{◌≡◌, ℕ, Bool, true, false, ◌&&◌, List, length, Option, None, Ok, IsTrue}
use Rattle.std.specs.List.{AllByRecursion}
use Rattle.fw_list.specs.Numbers.{within}
use Rattle.fw_list.specs.declared.limits.TheConstants.{LONGEST_FRAME}
use Rattle.fw_base.specs.declared.seat.Seat.{Seat}
use Rattle.fw_base.specs.declared.seat.Seat.TheVariants.{Client}
use Rattle.fw_base.specs.Seats.{fits, linked}
use Rattle.fw_op.specs.declared.op.Op.{Op}
use Rattle.fw_op.specs.Ops.{op_fits}
use Rattle.fw_record.specs.Records.{starts_fit}
use Rattle.fw_step.specs.Fitting.{is_faulty, is_correct}
use Rattle.fw_trace.specs.declared.Sent.{Sent}
use Rattle.fw_trace.specs.Trace.{Trace, Event, Submits, Delivers, Ticks, Lies, trace_of}
use Rattle.fw_trace.specs.Run.{World, Step, IsFair, run}
use Rattle.fw_source.specs.Runs.{Carries, Passes}
use Rattle.fw_deal.specs.Deals.{IsDirectoryOf}
use Rattle.fw_fair.specs.declared.fault.Fault.{Fault}
use Rattle.fw_fair.specs.Hostile.{Hostile, Lying, rules, world}

-- the directory is the deal's, and executors can start with its records
pub record IsDeployment (w : Hostile) : Type 0 where
  pub directory : IsDirectoryOf w.deal.origin w.directory
  pub starts : IsTrue (starts_fit w.deal.origin.params.clients w.deal.starts)

abbrev pub is_client : Seat → Bool
is_client (Client c) = true
is_client _ = false

-- correct clients submit, correct seats tick, and a faulty seat lies to a seat that it is linked with
abbrev pub permitted : Hostile → Event (List ℕ) Op → Bool
permitted w (Submits seat op) = is_client seat && (is_correct w.directory.params w.faulty seat && op_fits w.directory.params.clients op)
permitted w (Delivers k) = true
permitted w (Ticks seat) = is_correct w.directory.params w.faulty seat
permitted w (Lies s) =
    is_faulty w.faulty s.from
    && (fits w.directory.params s.from && (fits w.directory.params s.to && (linked w.directory.params s.from s.to && within 1 (length s.message) LONGEST_FRAME)))

-- where lies are given as they are pooled, nothing else tells one
abbrev pub untold : ⊥ → List (Sent (List ℕ)) → Option (Sent (List ℕ))
untold lie pool = None

-- the world whose events they are: what it is fair to append, and to whom
abbrev pub events_of : Hostile → World (List ℕ) Op ⊥ Fault
events_of w = world w untold

-- permitted events, the newest first, none of which has a fault
pub record FairRun (w : Hostile) (events : List (Event (List ℕ) Op)) : Type 0 where
  pub deployment : IsDeployment w
  pub are_permitted : AllByRecursion (λ e. IsTrue (permitted w e)) events
  pub fair : IsFair (events_of w) events

abbrev pub trace_after : Hostile → List (Event (List ℕ) Op) → Trace (List ℕ) Op
trace_after w events = trace_of (rules w) events

-- a law of every fair run of every deployment
abbrev pub Always : (Hostile → Trace (List ℕ) Op → Type 0) → Type 0
Always Law = (w : Hostile) (events : List (Event (List ℕ) Op)) → FairRun w events → Law w (trace_after w events)

-- a law of every run of a schedule each of whose steps comes to permitted events, whatever its lies append
abbrev pub InRuns : (Hostile → Trace (List ℕ) Op → Type 0) → Type 0
InRuns Law =
    (w : Hostile) (lie : Lying ℕ) (fits : Step Op ℕ → Bool) → IsDeployment w → Carries (world w lie) (Passes fits) (Passes (permitted w))
    → (steps : List (Step Op ℕ)) (t : Trace (List ℕ) Op) → AllByRecursion (Passes fits) steps → run (world w lie) steps ≡ Ok t → Law w t
