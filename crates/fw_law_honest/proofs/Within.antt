-- What holds of each message of a whole pool, since each seat sends only such after it heard only such. Of what is sent it is known
-- that it stands in the whole pool.
use Rattle.std.proofs.Common.{inl, inr, List, [], ◌∷◌, sym, ◌∙◌, ap, subst}
use Rattle.std.proofs.lemmas.Bool.{false≢true}
use Rattle.fw_base.specs.declared.seat.Seat.{Seat}
use Rattle.fw_trace.specs.declared.Input.{Input}
use Rattle.fw_trace.specs.declared.Sent.{Sent}
use Rattle.fw_trace.specs.declared.Logged.{Logged}
use Rattle.fw_trace.specs.Trace.{Trace, Rules, Event, trace_of, history, takes}
use Rattle.fw_trace.specs.Run.{is_lie, NoLies}
use Rattle.fw_trace.specs.Lists.{In}
use Rattle.fw_trace.proofs.Words.{In-append, In-left}
use Rattle.fw_source.specs.Sources.{Hears, AllHeard, Pooled, everyone, Traced, AllPooled}
use Rattle.fw_source.proofs.Source.{AllHeard-weaken, traced_without_lies, kept_by_event, from_seat-is, heard_after}

-- what a seat has heard: it stands in the whole pool, and is such
abbrev pub Known : {M : Type 0} → List (Sent M) → (Seat → Seat → M → Type 0) → Seat → Seat → M → Type 0
Known pool Q seat from m = Pooled pool seat from m × Q seat from m

abbrev pub SendsSuch : {M O : Type 0} → Rules M O → List (Sent M) → (Seat → Seat → M → Type 0) → Type 0
SendsSuch {M} {O} r pool Q =
    (seat : Seat) (h : List (Input M O)) → AllHeard (Known pool Q seat) h → (o : Seat × M) → In o (r.rule seat h) → Pooled pool o.0 seat o.1 → Q o.0 seat o.1

-- the pool stands in the whole one
abbrev Inside : {M : Type 0} → List (Sent M) → List (Sent M) → Type 0
Inside {M} pool whole = (s : Sent M) → In s pool → In s whole

such : {M O : Type 0} (r : Rules M O) (whole : List (Sent M)) (Q : Seat → Seat → M → Type 0) → SendsSuch r whole Q
    → (events : List (Event M O)) → NoLies events → Inside (trace_of r events).pool whole → AllPooled Q (trace_of r events).pool
such r whole Q each [] a within = λ s i. absurd i
such {M = M} {O = O} r whole Q each (e ∷ events) a within =
    kept_by_event r (λ t. Inside t.pool whole → AllPooled Q t.pool) e (trace_of r events)
    (λ l taker new. keeps (trace_of r events) l (traced_without_lies r events a.1) (such r whole Q each events a.1) new)
    (λ s is. absurd (false≢true (sym a.0 ∙ ap is_lie is)))
    (such r whole Q each events a.1)
    within
  where
    keeps : (t : Trace M O) (l : Logged M O) → Traced everyone r t → (Inside t.pool whole → AllPooled Q t.pool) → Hears (Pooled t.pool l.seat) l.input
        → Inside (takes r t l).pool whole → AllPooled Q (takes r t l).pool
    keeps t l k q new within s i =
        let before : Inside t.pool whole = λ x j. within x (In-left x t.pool _ j) in
        elim (In-append s t.pool _ i) [
          | inl h ↦ q before s h
          | inr h ↦
              let b = from_seat-is l.seat _ s h in
              let all = heard_after (Pooled t.pool) l t.log k.heard new l.seat in
              let good = AllHeard-weaken (Pooled t.pool l.seat) (Known whole Q l.seat) (λ from m g. (before _ g, q before _ g)) (history l.seat (l ∷ t.log)) all in
              let there : Pooled whole s.to l.seat s.message = subst (λ (f : Seat). Pooled whole s.to f s.message) b.0 (within s i) in
              subst (λ (f : Seat). Q s.to f s.message) (sym b.0) (each l.seat (history l.seat (l ∷ t.log)) good (s.to, s.message) b.1 there)
        ]

pub all_such : {M O : Type 0} (r : Rules M O) (Q : Seat → Seat → M → Type 0) (events : List (Event M O)) → NoLies events
    → SendsSuch r (trace_of r events).pool Q → AllPooled Q (trace_of r events).pool
all_such r Q events a each = such r (trace_of r events).pool Q each events a (λ s i. i)
