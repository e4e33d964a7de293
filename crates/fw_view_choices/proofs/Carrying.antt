-- The run that carries what each seat keeps is the run by the rules.
use Rattle.std.proofs.Common.{◌≡◌, ℕ, suc, zero, ◌+◌, List, [], ◌∷◌, ◌++◌, Bool, true, false, cond, Option, Some, None, Result, Ok, Err, slice_get, refl, sym, ap, subst, ◌∙◌}
use Rattle.fw_base.specs.declared.seat.Seat.{Seat}
use Rattle.fw_base.specs.Seats.{seat_eq}
use Rattle.fw_trace.specs.declared.Input.{Input}
use Rattle.fw_trace.specs.declared.Input.TheVariants.{Heard, Tick, Submitted}
use Rattle.fw_trace.specs.declared.Sent.{Sent}
use Rattle.fw_trace.specs.declared.Logged.{Logged}
use Rattle.fw_trace.specs.Role.{Role, kept}
use Rattle.fw_trace.specs.Trace.{Trace, Rules, Event, Submits, Delivers, Ticks, Lies, history, from_seat, next_frame}
use Rattle.fw_trace.specs.Trace as traces
use Rattle.fw_trace.specs.Run.{World, Step, Submit, Deliver, Flush, Tick_at, Lie, Outcome, first_fault, appended, is_lie, happens}
use Rattle.fw_trace.specs.Run as runs
use Rattle.fw_trace.proofs.Words.{seat_eq-refl, seat_eq-same}
use Rattle.fw_view_choices.proofs.Flushing.{flushes_is}
use Rattle.fw_view_choices.specs.Carried.{Carried, Roles, state_of, state_at, takes, delivers, after, flushes, lies, does, run_from, begin, run, Follows, FailsNever, KeepsAll}

-- ---- one input

history_same : {M O : Type 0} (l : Logged M O) (log : List (Logged M O)) → history l.seat (l ∷ log) ≡ l.input ∷ history l.seat log
history_same l log = ap (λ (b : Bool). cond b (l.input ∷ history l.seat log) (history l.seat log)) (seat_eq-refl l.seat)

takes_is : {S M O : Type 0} (r : Rules M O) (roles : Roles S M O) (c : Carried S M O) (l : Logged M O)
    → Follows r roles → KeepsAll roles c → traces.takes r c.trace l ≡ (takes roles c l).trace
takes_is {S} {M} {O} r roles c l follows keeps =
    let role : Role S M O = roles l.seat in
    let h : List (Input M O) = history l.seat c.trace.log in
    let same : r.rule l.seat (history l.seat (l ∷ c.trace.log)) ≡ (role.next (state_at roles c l.seat) l.input).1 =
    ap (r.rule l.seat) (history_same l c.trace.log) ∙ follows l.seat (l.input ∷ h) ∙ ap (λ (s : S). (role.next s l.input).1) (sym (keeps l.seat)) in
    ap (λ (out : List (Seat × M)). let t : Trace M O = record { pool = c.trace.pool ++ from_seat l.seat out; log = l ∷ c.trace.log } in t) same

takes_keeps : {S M O : Type 0} (roles : Roles S M O) (c : Carried S M O) (l : Logged M O) → KeepsAll roles c → KeepsAll roles (takes roles c l)
takes_keeps {S} {M} {O} roles c l keeps seat = by (seat_eq l.seat seat) refl
  where
    new : S
    new = ((roles l.seat).next (state_at roles c l.seat) l.input).0

    by : (b : Bool) → seat_eq l.seat seat ≡ b → cond b new (state_of (roles seat).start c.states seat) ≡ kept (roles seat) (cond b (l.input ∷ history seat c.trace.log) (history seat c.trace.log))
    by true e =
        subst (λ (s : Seat). new ≡ ((roles s).next (kept (roles s) (history s c.trace.log)) l.input).0) (seat_eq-same l.seat seat e)
        (ap (λ (s : S). ((roles l.seat).next s l.input).0) (keeps l.seat))
    by false e = keeps seat

-- ---- one event: it leads to the same trace, and what is carried is still what seats keep

pub record Carries {S M O : Type 0} (roles : Roles S M O) (t : Trace M O) (c : Carried S M O) : Type 0 where
  pub same : t ≡ c.trace
  pub keeps : KeepsAll roles c

takes_carries : {S M O : Type 0} (r : Rules M O) (roles : Roles S M O) (c : Carried S M O) (l : Logged M O)
    → Follows r roles → KeepsAll roles c → Carries roles (traces.takes r c.trace l) (takes roles c l)
takes_carries r roles c l follows keeps = record { same = takes_is r roles c l follows keeps; keeps = takes_keeps roles c l keeps }

delivers_carries : {S M O : Type 0} (r : Rules M O) (roles : Roles S M O) (c : Carried S M O) (k : ℕ) (o : Option (Sent M))
    → Follows r roles → KeepsAll roles c → Carries roles (traces.delivers r c.trace k o) (delivers r roles c k o)
delivers_carries r roles c k None follows keeps = record { same = refl; keeps = keeps }
delivers_carries {S} {M} {O} r roles c k (Some s) follows keeps = by (r.correct s.to)
  where
    l : Logged M O
    l = record { seat = s.to; input = Heard s.from s.message; frame = Some k }

    by : (b : Bool) → Carries roles (cond b (traces.takes r c.trace l) c.trace) (cond b (takes roles c l) c)
    by true = takes_carries r roles c l follows keeps
    by false = record { same = refl; keeps = keeps }

after_carries : {S M O : Type 0} (r : Rules M O) (roles : Roles S M O) (c : Carried S M O) (e : Event M O)
    → Follows r roles → KeepsAll roles c → Carries roles (traces.after r c.trace e) (after r roles c e)
after_carries r roles c (Submits seat op) follows keeps = takes_carries r roles c (record { seat = seat; input = Submitted op; frame = None }) follows keeps
after_carries r roles c (Delivers k) follows keeps = delivers_carries r roles c k (slice_get c.trace.pool k) follows keeps
after_carries r roles c (Ticks seat) follows keeps = takes_carries r roles c (record { seat = seat; input = Tick; frame = None }) follows keeps
after_carries r roles c (Lies s) follows keeps = record { same = refl; keeps = keeps }

-- ---- one step, in a world without faults

first_fault-none : {M F : Type 0} (fault : List (Sent M) → Sent M → Option F) → ((pool : List (Sent M)) (s : Sent M) → fault pool s ≡ None)
    → (pool new : List (Sent M)) → first_fault fault pool new ≡ None
first_fault-none fault never pool [] = refl
first_fault-none {M} {F} fault never pool (s ∷ more) =
    ap (λ (o : Option F). elim o [ Some f ↦ Some f | None ↦ first_fault fault (pool ++ s ∷ []) more ]) (never pool s)
    ∙ first_fault-none fault never (pool ++ s ∷ []) more

happens_is : {M O L F : Type 0} (w : World M O L F) (t : Trace M O) (e : Event M O) → FailsNever w → happens w t e ≡ Ok (traces.after w.rules t e)
happens_is {M} {O} {L} {F} w t e never =
    ap (λ (o : Option F). elim o [ None ↦ Ok (traces.after w.rules t e) | Some f ↦ Err f ])
    (first_fault-none (w.fault (is_lie e)) (never (is_lie e)) t.pool (appended t.pool (traces.after w.rules t e).pool))

-- a step that goes well, and what is carried after it
pub record Goes {S M O F : Type 0} (roles : Roles S M O) (o : Outcome M O F) (c : Carried S M O) : Type 0 where
  pub well : o ≡ Ok c.trace
  pub keeps : KeepsAll roles c

happens_goes : {S M O L F : Type 0} (w : World M O L F) (roles : Roles S M O) (c : Carried S M O) (e : Event M O)
    → FailsNever w → Follows w.rules roles → KeepsAll roles c → Goes roles (happens w c.trace e) (after w.rules roles c e)
happens_goes {S} {M} {O} {L} {F} w roles c e never follows keeps =
    let next = after_carries w.rules roles c e follows keeps in
    record { well = happens_is w c.trace e never ∙ ap (λ (t : Trace M O). let o : Outcome M O F = Ok t in o) next.same; keeps = next.keeps }

flushes_goes : {S M O L F : Type 0} (w : World M O L F) (roles : Roles S M O) (most : ℕ) (c : Carried S M O)
    → FailsNever w → Follows w.rules roles → KeepsAll roles c → Goes roles (runs.flushes w most c.trace) (flushes w.rules roles most c)
flushes_goes w roles zero c never follows keeps = record { well = refl; keeps = keeps }
flushes_goes {S} {M} {O} {L} {F} w roles (suc most) c never follows keeps =
    by (next_frame w.rules c.trace.log 0 c.trace.pool) (λ k. let next = happens_goes w roles c (Delivers k) never follows keeps in more k next (flushes_goes w roles most (after w.rules roles c (Delivers k)) never follows next.keeps))
  where
    more : (k : ℕ) → Goes roles (happens w c.trace (Delivers k)) (after w.rules roles c (Delivers k))
        → Goes roles (runs.flushes w most (after w.rules roles c (Delivers k)).trace) (flushes w.rules roles most (after w.rules roles c (Delivers k)))
        → Goes roles (elim (happens w c.trace (Delivers k)) [ Ok next ↦ runs.flushes w most next | Err f ↦ Err f ]) (flushes w.rules roles most (after w.rules roles c (Delivers k)))
    more k next rest = record {
      well = ap (λ (o : Outcome M O F). elim o [ Ok next ↦ runs.flushes w most next | Err f ↦ Err f ]) next.well ∙ rest.well;
      keeps = rest.keeps;
    }

    by : (o : Option ℕ)
        → ((k : ℕ) → Goes roles (elim (happens w c.trace (Delivers k)) [ Ok next ↦ runs.flushes w most next | Err f ↦ Err f ]) (flushes w.rules roles most (after w.rules roles c (Delivers k))))
        → Goes roles
        (elim o [ None ↦ Ok c.trace | Some k ↦ elim (happens w c.trace (Delivers k)) [ Ok next ↦ runs.flushes w most next | Err f ↦ Err f ] ])
        (elim o [ None ↦ c | Some k ↦ flushes w.rules roles most (after w.rules roles c (Delivers k)) ])
    by None rest = record { well = refl; keeps = keeps }
    by (Some k) rest = rest k

lies_goes : {S M O L F : Type 0} (w : World M O L F) (roles : Roles S M O) (c : Carried S M O) (o : Option (Sent M))
    → FailsNever w → Follows w.rules roles → KeepsAll roles c → Goes roles (runs.lies w c.trace o) (lies c o)
lies_goes w roles c None never follows keeps = record { well = refl; keeps = keeps }
lies_goes w roles c (Some s) never follows keeps = happens_goes w roles c (Lies s) never follows keeps

does_goes : {S M O L F : Type 0} (w : World M O L F) (roles : Roles S M O) (c : Carried S M O) (step : Step O L)
    → FailsNever w → Follows w.rules roles → KeepsAll roles c → Goes roles (runs.does w c.trace step) (does w roles c step)
does_goes w roles c (Submit seat op) never follows keeps = happens_goes w roles c (Submits seat op) never follows keeps
does_goes w roles c (Deliver k) never follows keeps = happens_goes w roles c (Delivers k) never follows keeps
does_goes w roles c (Flush most) never follows keeps =
    subst (λ (next : Carried _ _ _). Goes roles (runs.flushes w most c.trace) next) (flushes_is w.rules roles most 0 c tt) (flushes_goes w roles most c never follows keeps)
does_goes w roles c (Tick_at seat) never follows keeps = happens_goes w roles c (Ticks seat) never follows keeps
does_goes w roles c (Lie l) never follows keeps = lies_goes w roles c (w.lie l c.trace.pool) never follows keeps

-- ---- the run

pub record Ran {S M O F : Type 0} (roles : Roles S M O) (o : Result (Trace M O) (ℕ × F)) (c : Carried S M O) : Type 0 where
  pub well : o ≡ Ok c.trace
  pub keeps : KeepsAll roles c

runs_from : {S M O L F : Type 0} (w : World M O L F) (roles : Roles S M O) (k : ℕ) (c : Carried S M O) (steps : List (Step O L))
    → FailsNever w → Follows w.rules roles → KeepsAll roles c → Ran roles (runs.run_from w k c.trace steps) (run_from w roles c steps)
runs_from w roles k c [] never follows keeps = record { well = refl; keeps = keeps }
runs_from {S} {M} {O} {L} {F} w roles k c (step ∷ steps) never follows keeps =
    let next = does_goes w roles c step never follows keeps in
    let rest = runs_from w roles (k + 1) (does w roles c step) steps never follows next.keeps in
    record {
      well = ap (λ (o : Outcome M O F). elim o [ Ok next ↦ runs.run_from w (k + 1) next steps | Err f ↦ Err (k, f) ]) next.well ∙ rest.well;
      keeps = rest.keeps;
    }

-- where each seat's rule is its role and no frame is a fault, the run by the rules goes well, to the trace of the carried run
pub ran : {S M O L F : Type 0} (w : World M O L F) (roles : Roles S M O) (steps : List (Step O L))
    → FailsNever w → Follows w.rules roles → Ran roles (runs.run w steps) (run w roles steps)
ran w roles steps never follows = runs_from w roles 0 begin steps never follows (λ seat. refl)
