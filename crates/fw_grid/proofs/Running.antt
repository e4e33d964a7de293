-- Runs in parts: turns of a flush, and steps of a schedule.
use Rattle.std.proofs.lemmas.List.{length-drop}
use Rattle.std.proofs.Common.{◌≡◌, ℕ, zero, suc, ◌+◌, ◌-◌, ◌<◌, ◌≤◌, List, [], ◌∷◌, length, take, drop, Option, Some, None, Result, Ok, Err, refl, sym, ap, ap₂, ◌∙◌, arith, inl, inr, subst}
use Rattle.fw_base.specs.declared.seat.Seat.{Seat}
use Rattle.fw_op.specs.declared.op.Op.{Op}
use Rattle.fw_step.specs.declared.step.Step.{Step}
use Rattle.fw_trace.specs.Trace.{Event, Delivers, next_frame}
use Rattle.fw_trace.specs.Run.{Flush, happens, flushes, does, run_from}
use Rattle.fw_directory.specs.Directories.{PlainDirectory}
use Rattle.fw_node.specs.Histories.{History, Out}
use Rattle.fw_fair.specs.Hostile.{silent_among}
use Rattle.fw_rules.specs.declared.limits.Which.{Which}
use Rattle.fw_grid.specs.declared.fault.RunFault.{RunFault}
use Rattle.fw_grid.specs.declared.fault.RunFault.TheVariants as faults
use Rattle.std.specs.Prelude.{OnErr}
use Rattle.fw_grid.specs.declared.machine.Halt.{Halt}
use Rattle.fw_grid.specs.declared.machine.Halt.TheVariants as halts
use Rattle.fw_grid.specs.Schedule.{schedule, step_of_run}
use Rattle.fw_grid.specs.Fronts.{Seats, Move, Sight, event_end, flush_end, step_end, run_end, IsFront, IsFault, IfLimit}

-- equal directories, faulty seats and rules make one world
pub same_world : (d e : PlainDirectory) (f g : List Seat) (r s : Seat → History → Out) → d ≡ e → f ≡ g → r ≡ s → ◌≡◌ {A = Seats} (silent_among d.params f r) (silent_among e.params g s)
same_world d e f g r s one two three =
    ap₂ (λ (x : PlainDirectory) (y : List Seat). silent_among x.params y r) one two ∙ ap (λ (y : Seat → History → Out). silent_among e.params g y) three

-- ---- flushes

abbrev Outcome : Type 0
Outcome = Result Sight Which

ok_same : (t u : Sight) → ◌≡◌ {A = Outcome} (Ok t) (Ok u) → t ≡ u
ok_same t u e = cc

-- where no frame is due, a flush does nothing
flush_idle : (w : Seats) (n : ℕ) (t : Sight) → next_frame w.rules t.log 0 t.pool ≡ None → (flushes w n t ≡ Ok t) × (flush_end w n t ≡ t)
flush_idle w zero t none = (refl, refl)
flush_idle w (suc n) t none = (
  ap (λ (o : Option ℕ). elim o [ None ↦ Ok t | Some k ↦ elim (happens w t (Delivers k)) [ Ok next ↦ flushes w n next | Err f ↦ Err f ] ]) none,
  ap (λ (o : Option ℕ). elim o [ None ↦ t | Some k ↦ elim (happens w t (Delivers k)) [ Ok next ↦ flush_end w n next | Err f ↦ t ] ]) none,
)

-- the first turns, and then the rest
pub flush_split : (w : Seats) (i n : ℕ) (t u : Sight) → flushes w i t ≡ Ok u → (flushes w (i + n) t ≡ flushes w n u) × (flush_end w (i + n) t ≡ flush_end w n u)
flush_split w zero n t u done =
    let same = ok_same t u done in
    let e : zero + n ≡ n = omega arith in
    (ap (λ m. flushes w m t) e ∙ ap (flushes w n) same, ap (λ m. flush_end w m t) e ∙ ap (flush_end w n) same)
flush_split w (suc i) n t u done =
    let e : suc i + n ≡ suc (i + n) = omega arith in
    let r = by (λ next. flush_split w i n next u) (next_frame w.rules t.log 0 t.pool) refl done in
    (ap (λ m. flushes w m t) e ∙ r.0, ap (λ m. flush_end w m t) e ∙ r.1)
  where
    Splits : Type 0
    Splits = (next : Sight) → flushes w i next ≡ Ok u → (flushes w (i + n) next ≡ flushes w n u) × (flush_end w (i + n) next ≡ flush_end w n u)

    deliver : Splits → (o : Outcome) → ◌≡◌ {A = Outcome} (elim o [ Ok next ↦ flushes w i next | Err f ↦ Err f ]) (Ok u)
        → (◌≡◌ {A = Outcome} (elim o [ Ok next ↦ flushes w (i + n) next | Err f ↦ Err f ]) (flushes w n u)) × (◌≡◌ {A = Sight} (elim o [ Ok next ↦ flush_end w (i + n) next | Err f ↦ t ]) (flush_end w n u))
    deliver splits (Ok next) more = splits next more
    deliver splits (Err f) more = absurd (let wrong : ◌≡◌ {A = Outcome} (Err f) (Ok u) = more in cc)

    by : Splits → (o : Option ℕ) → next_frame w.rules t.log 0 t.pool ≡ o
        → ◌≡◌ {A = Outcome} (elim o [ None ↦ Ok t | Some k ↦ elim (happens w t (Delivers k)) [ Ok next ↦ flushes w i next | Err f ↦ Err f ] ]) (Ok u)
        → (◌≡◌ {A = Outcome} (elim o [ None ↦ Ok t | Some k ↦ elim (happens w t (Delivers k)) [ Ok next ↦ flushes w (i + n) next | Err f ↦ Err f ] ]) (flushes w n u))
        × (◌≡◌ {A = Sight} (elim o [ None ↦ t | Some k ↦ elim (happens w t (Delivers k)) [ Ok next ↦ flush_end w (i + n) next | Err f ↦ t ] ]) (flush_end w n u))
    by splits None test more =
        let same = ok_same t u more in
        let idle = flush_idle w n u (ap (λ (x : Sight). next_frame w.rules x.log 0 x.pool) (sym same) ∙ test) in
        (ap (λ (x : Sight). Ok x) same ∙ sym idle.0, same ∙ sym idle.1)
    by splits (Some k) test more = deliver splits (happens w t (Delivers k)) more

-- one turn that delivers
flush_one : (w : Seats) (t u : Sight) (k : ℕ) → next_frame w.rules t.log 0 t.pool ≡ Some k → happens w t (Delivers k) ≡ Ok u → flushes w 1 t ≡ Ok u
flush_one w t u k due done =
    ap (λ (o : Option ℕ). elim o [ None ↦ Ok t | Some j ↦ elim (happens w t (Delivers j)) [ Ok next ↦ Ok next | Err f ↦ Err f ] ]) due
    ∙ ap (λ (o : Outcome). elim o [ Ok next ↦ Ok next | Err f ↦ Err f ]) done

-- a turn more
pub flush_more : (w : Seats) (i : ℕ) (t u next : Sight) (k : ℕ) → flushes w i t ≡ Ok u → Some k ≡ next_frame w.rules u.log 0 u.pool → happens w u (Delivers k) ≡ Ok next → flushes w (i + 1) t ≡ Ok next
flush_more w i t u next k so_far due done = (flush_split w i 1 t u so_far).0 ∙ flush_one w u next k (sym due) done

-- nothing is due any more
pub flush_stops : (w : Seats) (i most : ℕ) (t u : Sight) → flushes w i t ≡ Ok u → i ≤ most → None ≡ next_frame w.rules u.log 0 u.pool → flushes w most t ≡ Ok u
flush_stops w i most t u so_far within none =
    let all : most ≡ i + (most - i) = omega arith in
    ap (λ n. flushes w n t) all ∙ (flush_split w i (most - i) t u so_far).0 ∙ (flush_idle w (most - i) u (sym none)).0

-- a turn that fails
pub flush_fails : (w : Seats) (i most : ℕ) (t u : Sight) (k : ℕ) (f : Which) → flushes w i t ≡ Ok u → i < most → Some k ≡ next_frame w.rules u.log 0 u.pool → happens w u (Delivers k) ≡ Err f
    → (flushes w most t ≡ Err f) × (flush_end w most t ≡ u)
flush_fails w i most t u k f so_far within due failed =
    let all : most ≡ i + suc (most - (i + 1)) = omega arith in
    let m = most - (i + 1) in
    let parts = flush_split w i (suc m) t u so_far in (
      ap (λ n. flushes w n t) all ∙ parts.0
          ∙ ap (λ (o : Option ℕ). elim o [ None ↦ Ok u | Some j ↦ elim (happens w u (Delivers j)) [ Ok next ↦ flushes w m next | Err e ↦ Err e ] ]) (sym due)
          ∙ ap (λ (o : Outcome). elim o [ Ok next ↦ flushes w m next | Err e ↦ Err e ]) failed,
      ap (λ n. flush_end w n t) all ∙ parts.1
          ∙ ap (λ (o : Option ℕ). elim o [ None ↦ u | Some j ↦ elim (happens w u (Delivers j)) [ Ok next ↦ flush_end w m next | Err e ↦ u ] ]) (sym due)
          ∙ ap (λ (o : Outcome). elim o [ Ok next ↦ flush_end w m next | Err e ↦ u ]) failed,
    )

-- ---- fronts

-- before anything happened
pub front_none : (w : Seats) (t u : Sight) (steps : List Move) → u ≡ t → IsFront w t steps u
front_none w t u steps same = ([], tt, λ k. ap (λ (x : Sight). Ok x) (sym same))

pub front_flush : (w : Seats) (t u : Sight) (most fewer : ℕ) (rest : List Move) → fewer ≤ most → flushes w fewer t ≡ Ok u → IsFront w t (Flush most ∷ rest) u
front_flush w t u most fewer rest less done =
    (Flush fewer ∷ [], inr (less, refl), λ k. ap (λ (o : Outcome). elim o [ Ok next ↦ Ok next | Err f ↦ Err (k, f) ]) done)

-- an event that fails leaves the trace before it
pub event_fails : (w : Seats) (t u : Sight) (e : Event (List ℕ) Op) (f : Which) → happens w t e ≡ Err f → u ≡ t → u ≡ event_end w t e
event_fails w t u e f failed same = same ∙ sym (ap (λ (o : Outcome). elim o [ Ok next ↦ next | Err x ↦ t ]) failed)

-- what holds at a limit, and what holds with an error
pub if_limit : (P Q : Which → Type 0) (halt : Halt) → ((f : Which) → P f → Q f) → IfLimit halt P → IfLimit halt Q
if_limit P Q (halts.Limit f) more p = more f p
if_limit P Q halts.Memory more p = p

pub on_err : {T E : Type 0} (r : Result T E) (P Q : Type 0) → (P → Q) → OnErr r P → OnErr r Q
on_err (Ok x) P Q f p = p
on_err (Err e) P Q f p = f p

-- ---- schedules

-- a step that is done
one_done : (w : Seats) (k : ℕ) (t next : Sight) (o : Outcome) → ◌≡◌ {A = Result Sight (ℕ × Which)} (elim o [ Ok x ↦ Ok x | Err f ↦ Err (k, f) ]) (Ok next) → o ≡ Ok next
one_done w k t next (Ok x) e = let same : x ≡ next = cc in ap (λ (y : Sight). Ok y) same
one_done w k t next (Err f) e = absurd (let wrong : ◌≡◌ {A = Result Sight (ℕ × Which)} (Err (k, f)) (Ok next) = e in cc)

pub step_done : (w : Seats) (k : ℕ) (t next : Sight) (step : Step) → does w t (step_of_run step) ≡ Ok next → run_from w k t (schedule (step ∷ [])) ≡ Ok next
step_done w k t next step done = ap (λ (o : Outcome). elim o [ Ok x ↦ Ok x | Err f ↦ Err (k, f) ]) done

-- a step that fails
pub step_fails : (w : Seats) (k : ℕ) (t end : Sight) (step : Step) (steps : List Step) (f : Which) → (does w t (step_of_run step) ≡ Err f) × (end ≡ step_end w t (step_of_run step))
    → IsFault w k t (schedule (step ∷ steps)) end (faults.Limit k f)
step_fails w k t end step steps f both = (
  ap (λ (o : Outcome). elim o [ Ok x ↦ run_from w (k + 1) x (schedule steps) | Err e ↦ Err (k, e) ]) both.0,
  both.1 ∙ sym (ap (λ (o : Outcome). elim o [ Ok x ↦ run_end w x (schedule steps) | Err e ↦ step_end w t (step_of_run step) ]) both.0),
)

-- after a step that is done, the steps that are left lead where all lead
pub run_more : (w : Seats) (k : ℕ) (t next : Sight) (steps : List Step) → 0 < length steps → run_from w k t (schedule (take 1 steps)) ≡ Ok next
    → (run_from w (k + 1) next (schedule (drop 1 steps)) ≡ run_from w k t (schedule steps)) × (run_end w next (schedule (drop 1 steps)) ≡ run_end w t (schedule steps))
    × ((x : Sight) → IsFront w next (schedule (drop 1 steps)) x → IsFront w t (schedule steps) x)
run_more w k t next [] some done = absurd (omega arith)
run_more w k t next (step ∷ steps) some done =
    let one : does w t (step_of_run step) ≡ Ok next = one_done w k t next (does w t (step_of_run step)) done in (
      sym (ap (λ (o : Outcome). elim o [ Ok x ↦ run_from w (k + 1) x (schedule steps) | Err e ↦ Err (k, e) ]) one),
      sym (ap (λ (o : Outcome). elim o [ Ok x ↦ run_end w x (schedule steps) | Err e ↦ step_end w t (step_of_run step) ]) one),
      λ x front. (step_of_run step ∷ front.0, inl (refl, front.1), λ j. ap (λ (o : Outcome). elim o [ Ok y ↦ run_from w (j + 1) y front.0 | Err e ↦ Err (j, e) ]) one ∙ front.2 (j + 1)),
    )

-- a fault of the steps that are left is one of all
pub fault_of_all : (w v : Seats) (j k : ℕ) (t u end : Sight) (rest all : List Move) (fault : RunFault) → w ≡ v → run_from v j t rest ≡ run_from v k u all → run_end v t rest ≡ run_end v u all
    → IsFault w j t rest end fault → IsFault v k u all end fault
fault_of_all w v j k t u end rest all (faults.Limit step which) same runs ends failed =
    let here = subst (λ (x : Seats). IsFault x j t rest end (faults.Limit step which)) same failed in (sym runs ∙ here.0, here.1 ∙ ends)
fault_of_all w v j k t u end rest all faults.Memory same runs ends failed = tt

-- where something is left, the place is inside
pub drop_some : {A : Type 0} (xs : List A) (k : ℕ) → 0 < length (drop k xs) → k < length xs
drop_some xs k some = let l = length-drop k xs in omega arith
