-- A run that didn't fail is the trace of a list of events, none of which has a fault, and which have what comes of the schedule's steps.
-- So, where nobody lies, none is a lie; where only faulty seats lie, what is pooled from a correct seat was sent by its rule; and where the
-- rules guard places, what is shown is released.
use Rattle.std.proofs.Common.{ℕ, zero, suc, ◌+◌, ◌≡◌, false, List, [], ◌∷◌, refl, sym, ◌∙◌, ap, subst, Option, Some, None, Result, Ok, Err, Bool}
use Rattle.std.specs.List.{AllByRecursion}
use Rattle.std.proofs.lemmas.Option.{none-some}
use Rattle.fw_base.specs.declared.seat.Seat.{Seat}
use Rattle.fw_trace.specs.declared.Sent.{Sent}
use Rattle.fw_trace.specs.Trace.{Trace, Event, Submits, Delivers, Ticks, Lies, after, nothing, trace_of, next_frame}
use Rattle.fw_trace.specs.Run.{Step, Submit, Deliver, Flush, Tick_at, Lie, World, Outcome, happens, fault_at, flushes, lies, does, run, run_from, is_lie, NoLies, IsFair, Reached}
use Rattle.fw_source.specs.Sources.{IsNoLieOf, Traced}
use Rattle.fw_source.specs.Runs.{Carries, ReachedBy, TellsNoLieOf}
use Rattle.fw_source.specs.Shown.{Places, Guards, Allowed, AllAllowed, AllReleased}
use Rattle.fw_source.proofs.Source.{traced}
use Rattle.fw_source.proofs.Shown.{all_released}

same_Ok : {A B : Type 0} (x y : A) → ◌≡◌ {A = Result A B} (Ok x) (Ok y) → x ≡ y
same_Ok x y e = cc

err-ok : {A B : Type 0} (e : B) (x : A) → ◌≡◌ {A = Result A B} (Err e) (Ok x) → ⊥
err-ok e x h = cc

module _ {M O L F : Type 0} (w : World M O L F) (Q : Step O L → Type 0) (P : Event M O → Type 0) (carries : Carries w Q P) where
  happened : (t t' : Trace M O) (e : Event M O) → P e → ReachedBy w P t → happens w t e ≡ Ok t' → ReachedBy w P t'
  happened t t' e p r h = by (fault_at w t e) refl h
    where
      by : (o : Option F) → fault_at w t e ≡ o → ◌≡◌ {A = Outcome M O F} (elim o [ None ↦ Ok (after w.rules t e) | Some f ↦ Err f ]) (Ok t') → ReachedBy w P t'
      by None d k = (e ∷ r.0, (r.1, subst (λ (x : Trace M O). fault_at w x e ≡ None) r.3 d), (p, r.2), sym (same_Ok (after w.rules t e) t' k) ∙ ap (λ (x : Trace M O). after w.rules x e) r.3)
      by (Some f) d k = absurd (err-ok f t' k)

  flushed : (most : ℕ) (t t' : Trace M O) → ReachedBy w P t → flushes w most t ≡ Ok t' → ReachedBy w P t'
  flushed zero t t' r h = subst (ReachedBy w P) (same_Ok t t' h) r
  flushed (suc most) t t' r h = by (next_frame w.rules t.log 0 t.pool) h (λ u. flushed most u t')
    where
      one : (k : ℕ) (o : Outcome M O F) → happens w t (Delivers k) ≡ o → ◌≡◌ {A = Outcome M O F} (elim o [ Ok next ↦ flushes w most next | Err f ↦ Err f ]) (Ok t') → ((u : Trace M O) → ReachedBy w P u → flushes w most u ≡ Ok t' → ReachedBy w P t') → ReachedBy w P t'
      one k (Ok next) d e rest = rest next (happened t next (Delivers k) (carries.delivers k) r d) e
      one k (Err f) d e rest = absurd (err-ok f t' e)

      by : (o : Option ℕ) → ◌≡◌ {A = Outcome M O F} (elim o [ None ↦ Ok t | Some k ↦ elim (happens w t (Delivers k)) [ Ok next ↦ flushes w most next | Err f ↦ Err f ] ]) (Ok t') → ((u : Trace M O) → ReachedBy w P u → flushes w most u ≡ Ok t' → ReachedBy w P t') → ReachedBy w P t'
      by None e rest = subst (ReachedBy w P) (same_Ok t t' e) r
      by (Some k) e rest = one k (happens w t (Delivers k)) refl e rest

  told_lie : (l : L) (t t' : Trace M O) (o : Option (Sent M)) → w.lie l t.pool ≡ o → Q (Lie l) → ReachedBy w P t → lies w t o ≡ Ok t' → ReachedBy w P t'
  told_lie l t t' None is q r h = subst (ReachedBy w P) (same_Ok t t' h) r
  told_lie l t t' (Some s) is q r h = happened t t' (Lies s) (carries.lies l t.pool s q is) r h

  done : (t t' : Trace M O) (step : Step O L) → Q step → ReachedBy w P t → does w t step ≡ Ok t' → ReachedBy w P t'
  done t t' (Submit seat op) q r h = happened t t' (Submits seat op) (carries.submits seat op q) r h
  done t t' (Deliver k) q r h = happened t t' (Delivers k) (carries.delivers k) r h
  done t t' (Flush most) q r h = flushed most t t' r h
  done t t' (Tick_at seat) q r h = happened t t' (Ticks seat) (carries.ticks seat q) r h
  done t t' (Lie l) q r h = told_lie l t t' (w.lie l t.pool) refl q r h

  ran : (k : ℕ) (t t' : Trace M O) (steps : List (Step O L)) → AllByRecursion Q steps → ReachedBy w P t → run_from w k t steps ≡ Ok t' → ReachedBy w P t'
  ran k t t' [] qs r h = subst (ReachedBy w P) (same_Ok t t' h) r
  ran k t t' (step ∷ steps) qs r h = by (does w t step) refl h (λ u. ran (k + 1) u t' steps qs.1)
    where
      by : (o : Outcome M O F) → does w t step ≡ o → ◌≡◌ {A = Result (Trace M O) (ℕ × F)} (elim o [ Ok next ↦ run_from w (k + 1) next steps | Err f ↦ Err (k, f) ]) (Ok t') → ((u : Trace M O) → ReachedBy w P u → run_from w (k + 1) u steps ≡ Ok t' → ReachedBy w P t') → ReachedBy w P t'
      by (Ok next) d e rest = rest next (done t next step qs.0 r d) e
      by (Err f) d e rest = absurd (err-ok (k, f) t' e)

  pub run_reached_by : (steps : List (Step O L)) (t : Trace M O) → AllByRecursion Q steps → run w steps ≡ Ok t → ReachedBy w P t
  run_reached_by steps t qs h = ran 0 nothing t steps qs ([], tt, tt, refl) h

-- the steps of a schedule of which nothing is known
abbrev Any : {A : Type 0} → A → Type 0
Any x = Unit {0}

all_any : {A : Type 0} (xs : List A) → AllByRecursion Any xs
all_any [] = tt
all_any (x ∷ xs) = (tt, all_any xs)

pub run_reached : {M O L F : Type 0} (w : World M O L F) (steps : List (Step O L)) (t : Trace M O) → run w steps ≡ Ok t → Reached w t
run_reached w steps t h =
    let carries : Carries w Any Any = record { submits = λ seat op q. tt; delivers = λ k. tt; ticks = λ seat q. tt; lies = λ l pool s q e. tt } in
    let r = run_reached_by w Any Any carries steps t (all_any steps) h in
    (r.0, r.1, r.3)

abbrev IsPlain : {M O : Type 0} → Event M O → Type 0
IsPlain e = is_lie e ≡ false

all_plain : {M O : Type 0} (events : List (Event M O)) → AllByRecursion IsPlain events → NoLies events
all_plain [] a = tt
all_plain (e ∷ events) a = (a.0, all_plain events a.1)

pub run_without_lies : {M O L F : Type 0} (w : World M O L F) → ((l : L) (pool : List (Sent M)) → w.lie l pool ≡ None)
    → (steps : List (Step O L)) (t : Trace M O) → run w steps ≡ Ok t → (events : List (Event M O)) × NoLies events × (t ≡ trace_of w.rules events)
run_without_lies w silent steps t h =
    let carries : Carries w Any IsPlain = record { submits = λ seat op q. refl; delivers = λ k. refl; ticks = λ seat q. refl; lies = λ l pool s q e. absurd (none-some s (sym (silent l pool) ∙ e)) } in
    let r = run_reached_by w Any IsPlain carries steps t (all_any steps) h in
    (r.0, all_plain r.0 r.2, r.3)

-- in a run, the seats in whose name no step lies are truthful
pub run_traced : {M O L F : Type 0} (w : World M O L F) (who : Seat → Bool) (steps : List (Step O L)) (t : Trace M O) → AllByRecursion (TellsNoLieOf w who) steps → run w steps ≡ Ok t → Traced who w.rules t
run_traced w who steps t truthful h =
    let carries : Carries w (TellsNoLieOf w who) (IsNoLieOf who) = record { submits = λ seat op q. tt; delivers = λ k. tt; ticks = λ seat q. tt; lies = λ l pool s q e. q pool s e } in
    let r = run_reached_by w (TellsNoLieOf w who) (IsNoLieOf who) carries steps t truthful h in
    subst (Traced who w.rules) (sym r.3) (traced who w.rules r.0 r.2)

all_tell : {M O L F : Type 0} (w : World M O L F) (who : Seat → Bool) → ((l : L) (pool : List (Sent M)) (s : Sent M) → w.lie l pool ≡ Some s → who s.from ≡ false)
    → (steps : List (Step O L)) → AllByRecursion (TellsNoLieOf w who) steps
all_tell w who others [] = tt
all_tell {O = O} {L = L} w who others (step ∷ steps) = (by step, all_tell w who others steps)
  where
    by : (step : Step O L) → TellsNoLieOf w who step
    by (Submit seat op) = tt
    by (Deliver k) = tt
    by (Flush most) = tt
    by (Tick_at seat) = tt
    by (Lie l) = others l

-- in a world where each lie is a faulty seat's, what is pooled from a correct seat was sent by its rule
pub run_traced_correct : {M O L F : Type 0} (w : World M O L F) → ((l : L) (pool : List (Sent M)) (s : Sent M) → w.lie l pool ≡ Some s → w.rules.correct s.from ≡ false)
    → (steps : List (Step O L)) (t : Trace M O) → run w steps ≡ Ok t → Traced w.rules.correct w.rules t
run_traced_correct w faulty steps t h = run_traced w w.rules.correct steps t (all_tell w w.rules.correct faulty steps) h

-- events that have P and no fault are allowed, if all that P and no fault permit is
pub all_allowed : {M O L F S : Type 0} (w : World M O L F) (g : Places M O S) (P : Event M O → Type 0)
    → ((t : Trace M O) (e : Event M O) → P e → fault_at w t e ≡ None → Allowed w.rules g t e)
    → (events : List (Event M O)) → IsFair w events → AllByRecursion P events → AllAllowed w.rules g events
all_allowed w g P permits [] fair a = tt
all_allowed w g P permits (e ∷ events) fair a = (all_allowed w g P permits events fair.0 a.1, permits (trace_of w.rules events) e a.0 fair.1)

-- so what is shown in a run is released, if its rules guard the places
pub run_released : {M O L F S : Type 0} (w : World M O L F) (g : Places M O S) (Q : Step O L → Type 0) (P : Event M O → Type 0) → Guards w.rules g → Carries w Q P
    → ((t : Trace M O) (e : Event M O) → P e → fault_at w t e ≡ None → Allowed w.rules g t e)
    → (steps : List (Step O L)) (t : Trace M O) → AllByRecursion Q steps → run w steps ≡ Ok t → AllReleased g t
run_released w g Q P guards carries permits steps t qs h =
    let r = run_reached_by w Q P carries steps t qs h in
    subst (AllReleased g) (sym r.3) (all_released w.rules g guards r.0 (all_allowed w g P permits r.0 r.1 r.2))
