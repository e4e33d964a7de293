-- Where messages come from: what a seat heard was pooled for it, and what is pooled from a truthful seat was sent by its rule.
use Rattle.std.proofs.Common.{◌≡◌, inl, inr, Bool, true, false, cond, List, [], ◌∷◌, ◌++◌, refl, sym, ◌∙◌, ap, subst, Option, Some, None}
use Rattle.std.specs.Prelude.{slice_get}
use Rattle.std.proofs.lemmas.Bool.{false≢true}
use Rattle.fw_base.specs.declared.seat.Seat.{Seat}
use Rattle.fw_base.specs.Seats.{seat_eq}
use Rattle.fw_trace.specs.declared.Input.{Input}
use Rattle.fw_trace.specs.declared.Input.TheVariants.{Heard, Tick, Submitted}
use Rattle.fw_trace.specs.declared.Sent.{Sent}
use Rattle.fw_trace.specs.declared.Logged.{Logged}
use Rattle.fw_trace.specs.Trace.{Trace, Rules, Event, Submits, Delivers, Ticks, Lies, trace_of, history, takes, after, delivers, from_seat}
use Rattle.fw_trace.specs.Run.{is_lie, NoLies}
use Rattle.fw_trace.specs.Lists.{In}
use Rattle.fw_trace.proofs.Words.{In-append, In-left, slice_get-In, seat_eq-same, seat_eq-refl}
use Rattle.fw_source.specs.Sources.{Hears, AllHeard, EverSent, Pooled, lied, IsNoLieOf, AreTruthful, everyone, Traced}

pub Hears-weaken : {M O : Type 0} (K L : Seat → M → Type 0) → ((from : Seat) (m : M) → K from m → L from m) → (i : Input M O) → Hears K i → Hears L i
Hears-weaken K L f (Heard from m) h = f from m h
Hears-weaken K L f Tick h = tt
Hears-weaken K L f (Submitted op) h = tt

pub AllHeard-weaken : {M O : Type 0} (K L : Seat → M → Type 0) → ((from : Seat) (m : M) → K from m → L from m) → (h : List (Input M O)) → AllHeard K h → AllHeard L h
AllHeard-weaken K L f [] a = tt
AllHeard-weaken K L f (i ∷ h) a = (Hears-weaken K L f i a.0, AllHeard-weaken K L f h a.1)

-- what holds of all that was heard holds of each message of it
pub AllHeard-In : {M O : Type 0} (K : Seat → M → Type 0) (h : List (Input M O)) (from : Seat) (m : M) → AllHeard K h → In (Heard from m) h → K from m
AllHeard-In K [] from m a i = absurd i
AllHeard-In {M = M} {O = O} K (x ∷ h) from m a (inl e) = subst (Hears K) (sym e) a.0
AllHeard-In K (x ∷ h) from m a (inr i) = AllHeard-In K h from m a.1 i

-- what holds of all that a rule sends after inputs of which K holds
pub sent_holds : {M O : Type 0} (K : Seat → M → Type 0) (rule : List (Input M O) → List (Seat × M)) (P : Seat × M → Type 0)
    → ((i : Input M O) (h : List (Input M O)) → AllHeard K (i ∷ h) → (o : Seat × M) → In o (rule (i ∷ h)) → P o)
    → (h : List (Input M O)) → AllHeard K h → (o : Seat × M) → EverSent rule h o → P o
sent_holds K rule P each [] a o s = absurd s
sent_holds K rule P each (i ∷ h) a o (inl s) = each i h a o s
sent_holds K rule P each (i ∷ h) a o (inr s) = sent_holds K rule P each h a.1 o s

-- a frame that a seat sent is one of its rule's
pub from_seat-is : {M : Type 0} (seat : Seat) (out : List (Seat × M)) (s : Sent M) → In s (from_seat seat out) → (s.from ≡ seat) × In (s.to, s.message) out
from_seat-is seat [] s h = absurd h
from_seat-is seat (o ∷ out) s (inl e) = (ap (λ (x : Sent _). x.from) e, inl (ap (λ (x : Sent _). (x.to, x.message)) e))
from_seat-is seat (o ∷ out) s (inr h) = let k = from_seat-is seat out s h in (k.0, inr k.1)

-- what all had heard once one input more was taken
pub heard_after : {M O : Type 0} (K : Seat → Seat → M → Type 0) (l : Logged M O) (log : List (Logged M O))
    → ((seat : Seat) → AllHeard (K seat) (history seat log)) → Hears (K l.seat) l.input → (seat : Seat) → AllHeard (K seat) (history seat (l ∷ log))
heard_after K l log before new seat = by (seat_eq l.seat seat) refl
  where
    by : (b : Bool) → seat_eq l.seat seat ≡ b → AllHeard (K seat) (cond b (l.input ∷ history seat log) (history seat log))
    by true e = (subst (λ (s : Seat). Hears (K s) l.input) (seat_eq-same l.seat seat e) new, before seat)
    by false e = before seat

sent_before : {M O : Type 0} (rule : List (Input M O) → List (Seat × M)) (i : Input M O) (h : List (Input M O)) (o : Seat × M) (b : Bool) → EverSent rule h o → EverSent rule (cond b (i ∷ h) h) o
sent_before rule i h o true s = inr s
sent_before rule i h o false s = s

sent_now : {M O : Type 0} (rule : List (Input M O) → List (Seat × M)) (i : Input M O) (h : List (Input M O)) (o : Seat × M) (b : Bool) → b ≡ true → In o (rule (cond b (i ∷ h) h)) → EverSent rule (cond b (i ∷ h) h) o
sent_now rule i h o true e s = inl s
sent_now rule i h o false e s = absurd (false≢true e)

-- what is known of a message that a seat heard: it was pooled for the seat, and if it is from one of these, its sender's rule sent it there
abbrev pub Vouched : {M O : Type 0} → (Seat → Bool) → Rules M O → Trace M O → Seat → Seat → M → Type 0
Vouched who r t seat from m = Pooled t.pool seat from m × (who from ≡ true → EverSent (r.rule from) (history from t.log) (seat, m))

-- who takes an input at an event
abbrev pub Taker : {M O : Type 0} → Rules M O → Event M O → Seat → Type 0
Taker r (Submits by op) seat = seat ≡ by
Taker r (Delivers k) seat = r.correct seat ≡ true
Taker r (Ticks by) seat = seat ≡ by
Taker r (Lies s) seat = ⊥

-- at an event a seat takes an input, which was pooled for it if it is heard, or a lie is pooled, or all stays as it is
pub kept_by_event : {M O : Type 0} (r : Rules M O) (P : Trace M O → Type 0) (e : Event M O) (t : Trace M O)
    → ((l : Logged M O) → Taker r e l.seat → Hears (Pooled t.pool l.seat) l.input → P (takes r t l))
    → ((s : Sent M) → e ≡ Lies s → P (lied t s))
    → P t → P (after r t e)
kept_by_event r P (Submits seat op) t taken told p = taken (record { seat = seat; input = Submitted op; frame = None }) refl tt
kept_by_event {M = M} {O = O} r P (Delivers k) t taken told p = by (slice_get t.pool k) refl
  where
    to_correct : (s : Sent M) → In s t.pool → (b : Bool) → r.correct s.to ≡ b → P (cond b (takes r t (record { seat = s.to; input = Heard s.from s.message; frame = Some k })) t)
    to_correct s i true c = taken (record { seat = s.to; input = Heard s.from s.message; frame = Some k }) c i
    to_correct s i false c = p

    by : (o : Option (Sent M)) → slice_get t.pool k ≡ o → P (delivers r t k o)
    by None e = p
    by (Some s) e = to_correct s (slice_get-In t.pool k s e) (r.correct s.to) refl
kept_by_event r P (Ticks seat) t taken told p = taken (record { seat = seat; input = Tick; frame = None }) refl tt
kept_by_event r P (Lies s) t taken told p = told s refl

module _ {M O : Type 0} (who : Seat → Bool) (r : Rules M O) where
  takes_traced : (t : Trace M O) (l : Logged M O) → Traced who r t → Hears (Pooled t.pool l.seat) l.input → Traced who r (takes r t l)
  takes_traced t l k new = record { heard = heard; sent = sent }
    where
      more : List (Sent M)
      more = from_seat l.seat (r.rule l.seat (history l.seat (l ∷ t.log)))

      heard : (seat : Seat) → AllHeard (Pooled (t.pool ++ more) seat) (history seat (l ∷ t.log))
      heard seat = AllHeard-weaken (Pooled t.pool seat) (Pooled (t.pool ++ more) seat) (λ from m h. In-left _ t.pool more h) (history seat (l ∷ t.log)) (heard_after (Pooled t.pool) l t.log k.heard new seat)

      sent : (s : Sent M) → In s (t.pool ++ more) → who s.from ≡ true → EverSent (r.rule s.from) (history s.from (l ∷ t.log)) (s.to, s.message)
      sent s i w = elim (In-append s t.pool more i) [
        | inl h ↦ sent_before (r.rule s.from) l.input (history s.from t.log) (s.to, s.message) (seat_eq l.seat s.from) (k.sent s h w)
        | inr h ↦
            let b = from_seat-is l.seat _ s h in
            subst (λ (f : Seat). EverSent (r.rule f) (history f (l ∷ t.log)) (s.to, s.message)) (sym b.0) (sent_now (r.rule l.seat) l.input (history l.seat t.log) (s.to, s.message) (seat_eq l.seat l.seat) (seat_eq-refl l.seat) b.1)
      ]

  lied_traced : (t : Trace M O) (s : Sent M) → who s.from ≡ false → Traced who r t → Traced who r (lied t s)
  lied_traced t s liar k = record { heard = heard; sent = sent }
    where
      heard : (seat : Seat) → AllHeard (Pooled (t.pool ++ s ∷ []) seat) (history seat t.log)
      heard seat = AllHeard-weaken (Pooled t.pool seat) (Pooled (t.pool ++ s ∷ []) seat) (λ from m h. In-left _ t.pool (s ∷ []) h) (history seat t.log) (k.heard seat)

      sent : (x : Sent M) → In x (t.pool ++ s ∷ []) → who x.from ≡ true → EverSent (r.rule x.from) (history x.from t.log) (x.to, x.message)
      sent x i w = elim (In-append x t.pool (s ∷ []) i) [
        | inl h ↦ k.sent x h w
        | inr (inl e) ↦ absurd (false≢true (sym liar ∙ ap (λ (y : Sent M). who y.from) (sym e) ∙ w))
        | inr (inr h) ↦ absurd h
      ]

  pub traced : (events : List (Event M O)) → AreTruthful who events → Traced who r (trace_of r events)
  traced [] a = record { heard = λ seat. tt; sent = λ s i w. absurd i }
  traced (e ∷ events) a =
      let k = traced events a.1 in
      kept_by_event r (Traced who r) e (trace_of r events)
      (λ l taker new. takes_traced (trace_of r events) l k new)
      (λ s is. lied_traced (trace_of r events) s (subst (IsNoLieOf who) is a.0) k)
      k

  -- what is known of all that a seat has heard
  pub vouched : (t : Trace M O) → Traced who r t → (seat : Seat) → AllHeard (Vouched who r t seat) (history seat t.log)
  vouched t k seat =
      AllHeard-weaken (Pooled t.pool seat) (Vouched who r t seat) (λ from m h. (h, k.sent (record { from = from; to = seat; message = m }) h)) (history seat t.log) (k.heard seat)

  -- and once one input more was taken
  pub vouched_after : (t : Trace M O) (l : Logged M O) → Traced who r t → Hears (Pooled t.pool l.seat) l.input → (seat : Seat) → AllHeard (Vouched who r t seat) (history seat (l ∷ t.log))
  vouched_after t l k new seat =
      heard_after (Vouched who r t) l t.log (vouched t k)
      (Hears-weaken (Pooled t.pool l.seat) (Vouched who r t l.seat) (λ from m h. (h, k.sent (record { from = from; to = l.seat; message = m }) h)) l.input new) seat

-- where nobody lies, all are truthful
pub all_truthful : {M O : Type 0} (who : Seat → Bool) (events : List (Event M O)) → NoLies events → AreTruthful who events
all_truthful who [] a = tt
all_truthful {M = M} {O = O} who (e ∷ events) a = (by e a.0, all_truthful who events a.1)
  where
    by : (e : Event M O) → is_lie e ≡ false → IsNoLieOf who e
    by (Submits seat op) h = tt
    by (Delivers k) h = tt
    by (Ticks seat) h = tt
    by (Lies s) h = absurd (false≢true (sym h))

pub traced_without_lies : {M O : Type 0} (r : Rules M O) (events : List (Event M O)) → NoLies events → Traced everyone r (trace_of r events)
traced_without_lies r events a = traced everyone r events (all_truthful everyone events a)
