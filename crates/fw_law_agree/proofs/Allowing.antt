-- Permitted fair events are allowed: correct seats take inputs, and lies are faulty seats' and show what liars know.
use Rattle.std.proofs.Common.{ℕ, ◌≡◌, inl, inr, not, Bool, true, false, List, [], ◌∷◌, refl, sym, subst, Option, Some, None, IsTrue}
use Rattle.std.specs.Prelude.{find}
use Rattle.std.specs.Option.{option_map}
use Rattle.std.proofs.lemmas.Bool.{and_parts, cases_Bool}
use Rattle.std.proofs.lemmas.Option.{none-some}
use Rattle.fw_base.specs.declared.seat.Seat.{Seat}
use Rattle.fw_base.specs.declared.slot.Place.{Place}
use Rattle.fw_op.specs.declared.op.Op.{Op}
use Rattle.fw_op.specs.Ops.{op_fits}
use Rattle.fw_step.specs.Fitting.{is_faulty, is_correct}
use Rattle.fw_trace.specs.declared.Sent.{Sent}
use Rattle.fw_trace.specs.Trace.{Trace, Event, Submits, Delivers, Ticks, Lies}
use Rattle.fw_trace.specs.Run.{first_fault, fault_at}
use Rattle.fw_source.specs.Shown.{Allowed}
use Rattle.fw_frame.specs.declared.shown.Shown.{Shown}
use Rattle.fw_know.specs.Known.{is_known}
use Rattle.fw_fair.specs.declared.fault.Fault.{Fault}
use Rattle.fw_fair.specs.Showing.{shown_in}
use Rattle.fw_fair.specs.Faults.{Pool, told, knows, unknown_in, unknown_or, sending_fault, fault_of}
use Rattle.fw_fair.specs.Hostile.{Hostile, rules}
use Rattle.fw_law_agree.specs.Runs.{is_client, permitted, events_of}
use Rattle.fw_law_agree.specs.OneSignature.{Shows}
use Rattle.fw_law_agree.proofs.Listed.{none-found, appended_behind}
use Rattle.fw_law_agree.proofs.Knowing.{not_faulty}
use Rattle.fw_law_agree.proofs.Releasing.{guarded}

-- the first fault of one frame is that frame's
one_fault : {M F : Type 0} (fault : List (Sent M) → Sent M → Option F) (pool : List (Sent M)) (s : Sent M) → first_fault fault pool (s ∷ []) ≡ None → fault pool s ≡ None
one_fault {M = M} {F = F} fault pool s e = by (fault pool s) e
  where
    by : (o : Option F) → ◌≡◌ {A = Option F} (elim o [ Some f ↦ Some f | None ↦ None ]) None → o ≡ None
    by None h = refl
    by (Some f) h = h

no_unknown : (o : Option Place) (fault : Option Fault) → unknown_or o fault ≡ None → o ≡ None
no_unknown None fault e = refl
no_unknown (Some place) fault e = absurd (none-some _ (sym e))

none-mapped : {A B : Type 0} (f : A → B) (o : Option A) → option_map f o ≡ None → o ≡ None
none-mapped f None e = refl
none-mapped f (Some x) e = absurd (none-some (f x) (sym e))

not_false : (b : Bool) → not b ≡ false → b ≡ true
not_false true e = refl
not_false false e = cc

module _ (w : Hostile) where
  -- what a lie without a fault shows is known
  lie_known : (pool : Pool) (s : Sent (List ℕ)) → fault_of w.deal.origin w.directory w.faulty true pool s ≡ None → (place : Place) → Shows w.directory s.message place → IsTrue (knows w.directory w.faulty pool place)
  lie_known pool s e place shows =
      let unknown = no_unknown (unknown_in w.directory w.faulty pool s.message) (sending_fault w.deal.origin w.directory pool s) e in
      let test : Shown → Bool = λ pair. not (is_known w.directory.params w.faulty (told w.directory w.faulty pool) pair.place) in
      let found : find test (shown_in w.directory s.message) ≡ None = none-mapped (λ (pair : Shown). pair.place) (find test (shown_in w.directory s.message)) unknown in
      let known = not_false (knows w.directory w.faulty pool shows.0.place) (none-found test (shown_in w.directory s.message) found shows.0 shows.1) in
      subst (λ (z : Place). knows w.directory w.faulty pool z ≡ true) shows.2 known

  not_correct : (seat : Seat) → is_faulty w.faulty seat ≡ true → is_correct w.directory.params w.faulty seat ≡ false
  not_correct seat bad = elim (cases_Bool (is_correct w.directory.params w.faulty seat)) [
    | inl good ↦ absurd (not_faulty w.directory.params w.faulty seat good bad)
    | inr other ↦ other
  ]

  pub event_allowed : (t : Trace (List ℕ) Op) (e : Event (List ℕ) Op) → IsTrue (permitted w e) → fault_at (events_of w) t e ≡ None → Allowed (rules w) (guarded w) t e
  event_allowed t (Submits seat op) p f =
      (and_parts (is_correct w.directory.params w.faulty seat) (op_fits w.directory.params.clients op) (and_parts (is_client seat) _ p).1).0
  event_allowed t (Delivers k) p f = tt
  event_allowed t (Ticks seat) p f = p
  event_allowed t (Lies s) p f =
      let fault = fault_of w.deal.origin w.directory w.faulty true in
      let fair : first_fault fault t.pool (s ∷ []) ≡ None = subst (λ (more : List (Sent (List ℕ))). first_fault fault t.pool more ≡ None) (appended_behind t.pool (s ∷ [])) f in
      (not_correct s.from (and_parts (is_faulty w.faulty s.from) _ p).0, lie_known t.pool s (one_fault fault t.pool s fair))
