-- In every trace whose rules guard places, and whose lies show what is known, each place that is shown is released.
use Rattle.std.proofs.Common.{◌≡◌, inl, inr, true, List, [], ◌∷◌, ◌∙◌, ap, subst}
use Rattle.fw_base.specs.declared.seat.Seat.{Seat}
use Rattle.fw_trace.specs.declared.Sent.{Sent}
use Rattle.fw_trace.specs.declared.Logged.{Logged}
use Rattle.fw_trace.specs.Trace.{Trace, Rules, Event, Submits, Delivers, Ticks, Lies, trace_of, history, takes}
use Rattle.fw_trace.proofs.Words.{In-append}
use Rattle.fw_source.specs.Sources.{Hears, AllHeard, Pooled, lied, IsNoLieOf, AreTruthful, Traced}
use Rattle.fw_source.specs.Shown.{Places, ShownIn, AllReleased, Guards, Allowed, AllAllowed}
use Rattle.fw_source.proofs.Source.{AllHeard-In, from_seat-is, heard_after, Taker, kept_by_event, traced}

module _ {M O P : Type 0} (r : Rules M O) (g : Places M O P) where
  -- who takes an input at an event that is allowed is correct
  is_correct : (t : Trace M O) (e : Event M O) → Allowed r g t e → (seat : Seat) → Taker r e seat → r.correct seat ≡ true
  is_correct t (Submits by op) a seat k = ap r.correct k ∙ a
  is_correct t (Delivers n) a seat k = k
  is_correct t (Ticks by) a seat k = ap r.correct k ∙ a
  is_correct t (Lies s) a seat k = absurd k

  no_lie : (t : Trace M O) (e : Event M O) → Allowed r g t e → IsNoLieOf r.correct e
  no_lie t (Submits by op) a = tt
  no_lie t (Delivers n) a = tt
  no_lie t (Ticks by) a = tt
  no_lie t (Lies s) a = a.0

  pub correct_truthful : (events : List (Event M O)) → AllAllowed r g events → AreTruthful r.correct events
  correct_truthful [] a = tt
  correct_truthful (e ∷ events) a = (no_lie (trace_of r events) e a.1, correct_truthful events a.0)

  takes_released : Guards r g → (t : Trace M O) (l : Logged M O) → r.correct l.seat ≡ true → Traced r.correct r t → Hears (Pooled t.pool l.seat) l.input → AllReleased g t → AllReleased g (takes r t l)
  takes_released guards t l c k new all p s =
      elim (In-append s.0 t.pool _ s.1) [
        | inl h ↦ old (s.0, h, s.2)
        | inr h ↦ elim (guards.source t l k all c new s.0.to s.0.message (from_seat-is l.seat _ s.0 h).1 p s.2) [
          | inl now ↦ now
          | inr x ↦ old (record { from = x.0; to = l.seat; message = x.1 }, AllHeard-In (Pooled t.pool l.seat) (history l.seat (l ∷ t.log)) x.0 x.1 told x.2, x.3)
        ]
      ]
    where
      told : AllHeard (Pooled t.pool l.seat) (history l.seat (l ∷ t.log))
      told = heard_after (Pooled t.pool) l t.log k.heard new l.seat

      old : ShownIn g t.pool p → g.released (takes r t l) p
      old x = guards.stays t l p (all p x)

  lied_released : Guards r g → (t : Trace M O) (s : Sent M) → Allowed r g t (Lies s) → Traced r.correct r t → AllReleased g t → AllReleased g (lied t s)
  lied_released guards t s a k all p x =
      guards.stays_lied t s p
      (elim (In-append x.0 t.pool (s ∷ []) x.1) [
        | inl h ↦ all p (x.0, h, x.2)
        | inr (inl e) ↦ guards.knows t k all p (a.1 p (subst (λ (y : Sent M). g.shows y.message p) e x.2))
        | inr (inr h) ↦ absurd h
      ])

  pub all_released : Guards r g → (events : List (Event M O)) → AllAllowed r g events → AllReleased g (trace_of r events)
  all_released guards [] a = λ p s. absurd s.1
  all_released guards (e ∷ events) a =
      let t = trace_of r events in
      let all = all_released guards events a.0 in
      let k = traced r.correct r events (correct_truthful events a.0) in
      kept_by_event r (AllReleased g) e t
      (λ l taker new. takes_released guards t l (is_correct t e a.1 l.seat taker) k new all)
      (λ s is. lied_released guards t s (subst (Allowed r g t) is a.1) k all)
      all
