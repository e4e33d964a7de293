-- How far a run came that ended early: before the event that failed, or before one for which memory was wanted.
use Rattle.std.specs.Prelude.{◌≡◌, ℕ, suc, zero, ◌≤◌, ◌⊎◌, List, [], ◌∷◌, None, Some, Ok, Err}
use Rattle.fw_op.specs.declared.op.Op.{Op}
use Rattle.fw_trace.specs.Trace.{Trace, Event, Submits, Delivers, Ticks, next_frame}
use Rattle.fw_trace.specs.Run.{World, Step, Submit, Deliver, Flush, Tick_at, Lie, happens, does, run_from}
use Rattle.fw_rules.specs.declared.limits.Which.{Which}
use Rattle.fw_grid.specs.declared.machine.Halt.{Halt}
use Rattle.fw_grid.specs.declared.machine.Halt.TheVariants as halts
use Rattle.fw_grid.specs.declared.fault.RunFault.{RunFault}
use Rattle.fw_grid.specs.declared.fault.RunFault.TheVariants as faults

-- a world of deployed seats, its steps, and its traces
abbrev pub Seats : Type 0
Seats = World (List ℕ) Op ⊥ Which

abbrev pub Move : Type 0
Move = Step Op ⊥

abbrev pub Sight : Type 0
Sight = Trace (List ℕ) Op

-- ---- the trace before the event that fails; after all, where none fails

abbrev pub event_end : Seats → Sight → Event (List ℕ) Op → Sight
event_end w t e = elim (happens w t e) [ Ok next ↦ next | Err f ↦ t ]

abbrev pub flush_end : Seats → ℕ → Sight → Sight
flush_end w zero t = t
flush_end w (suc most) t =
    elim (next_frame w.rules t.log 0 t.pool) [
      | None ↦ t
      | Some k ↦ elim (happens w t (Delivers k)) [ Ok next ↦ flush_end w most next | Err f ↦ t ]
    ]

abbrev pub step_end : Seats → Sight → Move → Sight
step_end w t (Submit seat op) = event_end w t (Submits seat op)
step_end w t (Deliver k) = event_end w t (Delivers k)
step_end w t (Flush most) = flush_end w most t
step_end w t (Tick_at seat) = event_end w t (Ticks seat)
step_end w t (Lie lie) = t

abbrev pub run_end : Seats → Sight → List Move → Sight
run_end w t [] = t
run_end w t (step ∷ steps) = elim (does w t step) [ Ok next ↦ run_end w next steps | Err f ↦ step_end w t step ]

-- ---- a front of a run

-- a flush of fewer frames
abbrev pub IsFewer : Move → Move → Type 0
IsFewer (Flush fewer) (Flush most) = fewer ≤ most
IsFewer _ _ = ⊥

-- steps in front of others; the last of them, a flush, may be of fewer frames
abbrev pub IsPart : List Move → List Move → Type 0
IsPart [] steps = Unit {0}
IsPart (s ∷ part) [] = ⊥
IsPart (s ∷ part) (step ∷ steps) = ((s ≡ step) × IsPart part steps) ⊎ (IsFewer s step × (part ≡ []))

-- the run of these steps came by this trace, and nothing had failed
abbrev pub IsFront : Seats → Sight → List Move → Sight → Type 0
IsFront w t steps front = (part : List Move) × IsPart part steps × ((k : ℕ) → run_from w k t part ≡ Ok front)

-- ---- faults

abbrev pub IfLimit : Halt → (Which → Type 0) → Type 0
IfLimit (halts.Limit which) P = P which
IfLimit halts.Memory P = Unit {0}

-- the run from step k on fails so, and ends with this trace; of want of memory nothing is said
abbrev pub IsFault : Seats → ℕ → Sight → List Move → Sight → RunFault → Type 0
IsFault w k t steps end (faults.Limit step which) = (run_from w k t steps ≡ Err (step, which)) × (end ≡ run_end w t steps)
IsFault w k t steps end faults.Memory = Unit {0}
