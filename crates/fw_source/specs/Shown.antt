-- Places are shown only once they are released: in every world whose correct seats show what is released or what they heard, and whose
-- lies show what is known.
use Rattle.std.specs.Prelude.{ℕ, ◌≡◌, ◌⊎◌, Bool, true, false, List, [], ◌∷◌}
use Rattle.fw_base.specs.declared.seat.Seat.{Seat}
use Rattle.fw_trace.specs.declared.Input.{Input}
use Rattle.fw_trace.specs.declared.Input.TheVariants.{Heard}
use Rattle.fw_trace.specs.declared.Sent.{Sent}
use Rattle.fw_trace.specs.declared.Logged.{Logged}
use Rattle.fw_trace.specs.Lists.{In}
use Rattle.fw_trace.specs.Trace.{Trace, Rules, Event, Submits, Delivers, Ticks, Lies, trace_of, history, takes}
use Rattle.fw_source.specs.Sources.{Hears, Pooled, Traced, lied}

-- P are places: what a message shows, which places a trace has released, and which are known once a pool stands
pub record Places (M O P : Type 0) : Type 1 where
  pub shows : M → P → Type 0
  pub released : Trace M O → P → Type 0
  pub known : List (Sent M) → P → Type 0

-- some pooled message shows the place
abbrev pub ShownIn : {M O P : Type 0} → Places M O P → List (Sent M) → P → Type 0
ShownIn {M = M} g pool p = (s : Sent M) × In s pool × g.shows s.message p

-- some message that was heard does
abbrev pub HeardIn : {M O P : Type 0} → Places M O P → List (Input M O) → P → Type 0
HeardIn {M = M} g h p = (from : Seat) × (m : M) × In (Heard from m) h × g.shows m p

-- each place that a pooled message shows is released
abbrev pub AllReleased : {M O P : Type 0} → Places M O P → Trace M O → Type 0
AllReleased {P = P} g t = (p : P) → ShownIn g t.pool p → g.released t p

-- in a trace whose messages are from whom they say, and in which all that was shown is released: what a correct seat sends on an input
-- shows what is released by then or was heard, and what is known is released. And what is released stays so.
pub record Guards {M O P : Type 0} (r : Rules M O) (g : Places M O P) : Type 0 where
  pub source : (t : Trace M O) (l : Logged M O) → Traced r.correct r t → AllReleased g t → r.correct l.seat ≡ true → Hears (Pooled t.pool l.seat) l.input
      → (to : Seat) (m : M) → In (to, m) (r.rule l.seat (history l.seat (l ∷ t.log))) → (p : P) → g.shows m p → g.released (takes r t l) p ⊎ HeardIn g (history l.seat (l ∷ t.log)) p
  pub stays : (t : Trace M O) (l : Logged M O) (p : P) → g.released t p → g.released (takes r t l) p
  pub stays_lied : (t : Trace M O) (s : Sent M) (p : P) → g.released t p → g.released (lied t s) p
  pub knows : (t : Trace M O) → Traced r.correct r t → AllReleased g t → (p : P) → g.known t.pool p → g.released t p

-- inputs are taken by correct seats, and lies are faulty seats' and show only what is known
abbrev pub Allowed : {M O P : Type 0} → Rules M O → Places M O P → Trace M O → Event M O → Type 0
Allowed r g t (Submits seat op) = r.correct seat ≡ true
Allowed r g t (Delivers k) = Unit {0}
Allowed r g t (Ticks seat) = r.correct seat ≡ true
Allowed {P = P} r g t (Lies s) = (r.correct s.from ≡ false) × ((p : P) → g.shows s.message p → g.known t.pool p)

-- the same of each event, the newest first, in the trace of those before it
abbrev pub AllAllowed : {M O P : Type 0} → Rules M O → Places M O P → List (Event M O) → Type 0
AllAllowed r g [] = Unit {0}
AllAllowed r g (e ∷ events) = AllAllowed r g events × Allowed r g (trace_of r events) e

-- the same by tests, over which a clause may range
abbrev pub by_tests : (ℕ → ℕ → Bool) → (Trace ℕ ℕ → ℕ → Bool) → (List (Sent ℕ) → ℕ → Bool) → Places ℕ ℕ ℕ
by_tests shows released known = record { shows = λ m p. shows m p ≡ true; released = λ t p. released t p ≡ true; known = λ pool p. known pool p ≡ true }
