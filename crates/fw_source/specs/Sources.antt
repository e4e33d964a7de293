-- Where messages come from: what a seat heard, what its rule ever sent, what stands in the pool for it, and whose lies may stand there.
use Rattle.std.specs.Prelude.{◌≡◌, ◌⊎◌, Bool, true, false, List, [], ◌∷◌, ◌++◌}
use Rattle.std.specs.List.{AllByRecursion}
use Rattle.fw_base.specs.declared.seat.Seat.{Seat}
use Rattle.fw_trace.specs.declared.Input.{Input}
use Rattle.fw_trace.specs.declared.Input.TheVariants.{Heard, Tick, Submitted}
use Rattle.fw_trace.specs.declared.Sent.{Sent}
use Rattle.fw_trace.specs.Lists.{In}
use Rattle.fw_trace.specs.Trace.{Trace, Rules, Event, Submits, Delivers, Ticks, Lies, history}

-- K holds of what was heard, if the input is that
abbrev pub Hears : {M O : Type 0} → (Seat → M → Type 0) → Input M O → Type 0
Hears K (Heard from m) = K from m
Hears K Tick = Unit {0}
Hears K (Submitted op) = Unit {0}

-- K holds of all that was heard
abbrev pub AllHeard : {M O : Type 0} → (Seat → M → Type 0) → List (Input M O) → Type 0
AllHeard K [] = Unit {0}
AllHeard K (i ∷ h) = Hears K i × AllHeard K h

-- it was sent on the newest input of this history, or on one before
abbrev pub EverSent : {M O : Type 0} → (List (Input M O) → List (Seat × M)) → List (Input M O) → Seat × M → Type 0
EverSent rule [] o = ⊥
EverSent rule (i ∷ h) o = In o (rule (i ∷ h)) ⊎ EverSent rule h o

-- the message is in the pool, for this seat and from that one
abbrev pub Pooled : {M : Type 0} → List (Sent M) → Seat → Seat → M → Type 0
Pooled pool to from m = In (record { from = from; to = to; message = m }) pool

-- the trace once a lie is pooled
abbrev pub lied : {M O : Type 0} → Trace M O → Sent M → Trace M O
lied t s = record { pool = t.pool ++ s ∷ []; log = t.log }

-- the event is no lie in the name of one of these seats
abbrev pub IsNoLieOf : {M O : Type 0} → (Seat → Bool) → Event M O → Type 0
IsNoLieOf who (Submits seat op) = Unit {0}
IsNoLieOf who (Delivers k) = Unit {0}
IsNoLieOf who (Ticks seat) = Unit {0}
IsNoLieOf who (Lies s) = who s.from ≡ false

-- each lie among the events is in the name of another seat than these. With `r.correct`: each lie is a faulty seat's
abbrev pub AreTruthful : {M O : Type 0} → (Seat → Bool) → List (Event M O) → Type 0
AreTruthful who events = AllByRecursion (IsNoLieOf who) events

-- all seats are truthful where nobody lies
abbrev pub everyone : Seat → Bool
everyone seat = true

-- what a seat heard was pooled for it by the seat it names, and what is pooled from one of these seats, its rule sent to that addressee
pub record Traced {M O : Type 0} (who : Seat → Bool) (r : Rules M O) (t : Trace M O) : Type 0 where
  pub heard : (seat : Seat) → AllHeard (Pooled t.pool seat) (history seat t.log)
  pub sent : (s : Sent M) → In s t.pool → who s.from ≡ true → EverSent (r.rule s.from) (history s.from t.log) (s.to, s.message)

-- Q holds of each pooled message: of its receiver, its sender and what it says
abbrev pub AllPooled : {M : Type 0} → (Seat → Seat → M → Type 0) → List (Sent M) → Type 0
AllPooled {M} Q pool = (s : Sent M) → In s pool → Q s.to s.from s.message
