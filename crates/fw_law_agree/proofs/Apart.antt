-- No two texts that a fair run keeps have one digest, unless they are one.
use Rattle.std.proofs.Common.{ℕ, ◌≡◌, ◌⊎◌, ◌&&◌, not, inl, inr, Bool, true, false, List, [], ◌∷◌, ◌++◌, refl, sym, ◌∙◌, ap, subst, Option, Some, None, append_assoc, append-nil}
use Rattle.std.specs.Prelude.{bytes_eq, flat_map}
use Rattle.std.proofs.lemmas.Bool.{cases_Bool, false≢true}
use Rattle.std.proofs.lemmas.Grind.{flat_map-append}
use Rattle.std.proofs.lemmas.Option.{none-some}
use Rattle.std.proofs.lemmas.Slice.Eq.{bytes_eq-Decides}
use Rattle.fw_base.specs.declared.slot.Place.{Place}
use Rattle.fw_op.specs.declared.op.Op.{Op}
use Rattle.fw_trace.specs.declared.Sent.{Sent}
use Rattle.fw_trace.specs.Lists.{In}
use Rattle.fw_trace.specs.Trace.{Trace, Event, after, history, from_seat}
use Rattle.fw_trace.specs.Run.{appended, first_fault, fault_at, is_lie, IsFair}
use Rattle.fw_trace.proofs.Words.{In-append}
use Rattle.fw_source.proofs.Source.{kept_by_event}
use Rattle.fw_frame.specs.declared.shown.Text.{Text}
use Rattle.fw_know.specs.Books.{clashes, clash_in, clash_or, first_clash}
use Rattle.fw_fair.specs.declared.fault.Fault.{Fault}
use Rattle.fw_fair.specs.Showing.{kept_in}
use Rattle.fw_fair.specs.Faults.{Pool, kept, unknown_in, unknown_or, collision_or_limit, limit_of, sending_fault, fault_of}
use Rattle.fw_fair.specs.Hostile.{Hostile, rules}
use Rattle.fw_law_agree.specs.Runs.{events_of, trace_after}
use Rattle.fw_law_agree.proofs.Listed.{none-found, appended_behind}

abbrev pub AreApart : List Text → Type 0
AreApart texts = (a b : Text) → In a texts → In b texts → a.digest ≡ b.digest → a.text ≡ b.text

-- ---- texts one after another

no_clash : (a b : Text) → clashes a b ≡ false → a.digest ≡ b.digest → a.text ≡ b.text
no_clash a b e same = elim (cases_Bool (bytes_eq a.text b.text)) [
  | inl t ↦ (bytes_eq-Decides a.text b.text).0 t
  | inr f ↦ absurd (false≢true (sym e ∙ both (bytes_eq a.digest b.digest) (bytes_eq a.text b.text) ((bytes_eq-Decides a.digest b.digest).1 same) f))
]
  where
    both : (x y : Bool) → x ≡ true → y ≡ false → (x && not y) ≡ true
    both true false p q = refl
    both true true p q = cc
    both false y p q = cc

one_more : (texts : List Text) (new : Text) → AreApart texts → clash_in texts new ≡ None → AreApart (texts ++ new ∷ [])
one_more texts new apart none a b i j same = by (In-append a texts (new ∷ []) i) (In-append b texts (new ∷ []) j)
  where
    against : (old : Text) → In old texts → new.digest ≡ old.digest → new.text ≡ old.text
    against old k e = no_clash new old (none-found (λ (z : Text). clashes new z) texts none old k) e

    by : In a texts ⊎ In a (new ∷ []) → In b texts ⊎ In b (new ∷ []) → a.text ≡ b.text
    by (inl x) (inl y) = apart a b x y same
    by (inl x) (inr (inl y)) = sym (ap (λ (z : Text). z.text) y ∙ against a x (sym (ap (λ (z : Text). z.digest) y) ∙ sym same))
    by (inr (inl x)) (inl y) = ap (λ (z : Text). z.text) x ∙ against b y (sym (ap (λ (z : Text). z.digest) x) ∙ same)
    by (inr (inl x)) (inr (inl y)) = ap (λ (z : Text). z.text) (x ∙ sym y)
    by (inr (inr x)) k = absurd x
    by (inl x) (inr (inr y)) = absurd y
    by (inr (inl x)) (inr (inr y)) = absurd y

-- nothing clashes where no clash is first
no_clash_in : (found : Option Text) (new : Text) (rest : Option (Text × Text)) → clash_or found new rest ≡ None → (found ≡ None) × (rest ≡ None)
no_clash_in None new rest e = (refl, e)
no_clash_in (Some old) new rest e = absurd (none-some (old, new) (sym e))

apart_more : (texts more : List Text) → AreApart texts → first_clash texts more ≡ None → AreApart (texts ++ more)
apart_more texts [] apart e = subst AreApart (sym (append-nil texts)) apart
apart_more texts (new ∷ more) apart e =
    let first = no_clash_in (clash_in texts new) new (first_clash (texts ++ new ∷ []) more) e in
    subst AreApart (append_assoc texts (new ∷ []) more) (apart_more (texts ++ new ∷ []) more (one_more texts new apart first.0) first.1)

-- ---- frames one after another

no_collision : (found : Option (Text × Text)) (limit : Option Fault) → collision_or_limit found limit ≡ None → found ≡ None
no_collision None limit e = refl
no_collision (Some two) limit e = absurd (none-some _ (sym e))

no_fault : (o : Option Place) (fault : Option Fault) → unknown_or o fault ≡ None → fault ≡ None
no_fault None fault e = e
no_fault (Some place) fault e = absurd (none-some _ (sym e))

module _ (w : Hostile) where
  sending_fair : (lie : Bool) (pool : Pool) (s : Sent (List ℕ)) → fault_of w.deal.origin w.directory w.faulty lie pool s ≡ None → sending_fault w.deal.origin w.directory pool s ≡ None
  sending_fair true pool s e = no_fault (unknown_in w.directory w.faulty pool s.message) (sending_fault w.deal.origin w.directory pool s) e
  sending_fair false pool s e = e

  apart_sent : (lie : Bool) (pool : Pool) (s : Sent (List ℕ)) → AreApart (kept w.deal.origin w.directory pool) → fault_of w.deal.origin w.directory w.faulty lie pool s ≡ None → AreApart (kept w.deal.origin w.directory (pool ++ s ∷ []))
  apart_sent lie pool s apart e =
      let o = w.deal.origin in
      let d = w.directory in
      let each : Sent (List ℕ) → List Text = λ x. kept_in o d x.message in
      let none = no_collision (first_clash (kept o d pool) (kept_in o d s.message)) (limit_of pool s) (sending_fair lie pool s e) in
      let grown : flat_map each (pool ++ s ∷ []) ≡ kept o d pool ++ kept_in o d s.message =
      flat_map-append each pool (s ∷ []) ∙ ap (λ (xs : List Text). flat_map each pool ++ xs) (append-nil (kept_in o d s.message)) in
      subst AreApart (sym grown) (apart_more (kept o d pool) (kept_in o d s.message) apart none)

  -- the first of frames without a fault has none, nor have the rest behind it
  two_faults : (fault : Pool → Sent (List ℕ) → Option Fault) (pool : Pool) (s : Sent (List ℕ)) (more : Pool) → first_fault fault pool (s ∷ more) ≡ None → (fault pool s ≡ None) × (first_fault fault (pool ++ s ∷ []) more ≡ None)
  two_faults fault pool s more e = by (fault pool s) refl e
    where
      by : (o : Option Fault) → fault pool s ≡ o → ◌≡◌ {A = Option Fault} (elim o [ Some f ↦ Some f | None ↦ first_fault fault (pool ++ s ∷ []) more ]) None → (fault pool s ≡ None) × (first_fault fault (pool ++ s ∷ []) more ≡ None)
      by None q h = (q, h)
      by (Some f) q h = absurd (none-some f (sym h))

  apart_all : (lie : Bool) (pool more : Pool) → AreApart (kept w.deal.origin w.directory pool) → first_fault (fault_of w.deal.origin w.directory w.faulty lie) pool more ≡ None → AreApart (kept w.deal.origin w.directory (pool ++ more))
  apart_all lie pool [] apart e = subst (λ (p : Pool). AreApart (kept w.deal.origin w.directory p)) (sym (append-nil pool)) apart
  apart_all lie pool (s ∷ more) apart e =
      let first = two_faults (fault_of w.deal.origin w.directory w.faulty lie) pool s more e in
      subst (λ (p : Pool). AreApart (kept w.deal.origin w.directory p)) (append_assoc pool (s ∷ []) more) (apart_all lie (pool ++ s ∷ []) more (apart_sent lie pool s apart first.0) first.1)

  -- ---- events one after another

  -- what an event appends stands behind the pool
  abbrev Behind : Pool → Trace (List ℕ) Op → Type 0
  Behind pool u = (more : Pool) × (u.pool ≡ pool ++ more)

  behind : (t : Trace (List ℕ) Op) (e : Event (List ℕ) Op) → Behind t.pool (after (rules w) t e)
  behind t e =
      kept_by_event (rules w) (Behind t.pool) e t
      (λ l taker new. (from_seat l.seat ((rules w).rule l.seat (history l.seat (l ∷ t.log))), refl))
      (λ s is. (s ∷ [], refl))
      ([], sym (append-nil t.pool))

  apart_event : (t : Trace (List ℕ) Op) (e : Event (List ℕ) Op) → AreApart (kept w.deal.origin w.directory t.pool) → fault_at (events_of w) t e ≡ None → AreApart (kept w.deal.origin w.directory (after (rules w) t e).pool)
  apart_event t e apart fair =
      let more = behind t e in
      let fault = fault_of w.deal.origin w.directory w.faulty (is_lie e) in
      let new : appended t.pool (after (rules w) t e).pool ≡ more.0 = ap (appended t.pool) more.1 ∙ appended_behind t.pool more.0 in
      subst (λ (p : Pool). AreApart (kept w.deal.origin w.directory p)) (sym more.1)
      (apart_all (is_lie e) t.pool more.0 apart (subst (λ (p : Pool). first_fault fault t.pool p ≡ None) new fair))

  pub kept_apart : (events : List (Event (List ℕ) Op)) → IsFair (events_of w) events → AreApart (kept w.deal.origin w.directory (trace_after w events).pool)
  kept_apart [] fair = λ a b i j same. absurd i
  kept_apart (e ∷ events) fair = apart_event (trace_after w events) e (kept_apart events fair.0) fair.1
