-- The filter's rule, whatever its messages are.
use Rattle.std.specs.Prelude.{ℕ, Bool, false, ◌&&◌, ◌||◌, not, nat_eq, List, [], ◌∷◌, ◌++◌, Option, Some, None, if◌then◌else◌, is_some}
use Rattle.fw_base.specs.declared.seat.Seat.{Seat}
use Rattle.fw_trace.specs.declared.Input.{Input}
use Rattle.fw_trace.specs.declared.Input.TheVariants.{Heard, Tick, Submitted}
use Rattle.fw_trace.specs.declared.Share.{Share}
use Rattle.fw_trace.specs.Role.{Role}
use Rattle.fw_trace.specs.Lists.{first_at}
use Rattle.fw_trace.specs.Client.{to_all}
use Rattle.fw_trace.specs.Executor.{Sends, sent_before}

pub record Speech (M V : Type 0) : Type 0 where
  pub agreed : Seat → M → Option ℕ  -- a valid agreed frame, from below
  pub replied : Seat → M → Option ℕ  -- a valid reply, from above, which is no executor
  pub shared : Seat → M → Option (Share V)  -- a valid share, from the executor that it names
  pub combined : ℕ → List (Share V) → Option M  -- the reply that kept shares of a number make, if enough are equal
  pub ups : List Seat
  pub downs : List Seat

pub record Filter (M V : Type 0) : Type 0 where
  pub held : List (ℕ × M)  -- the first reply of each number, the newest first
  pub asked : List (Seat × ℕ)  -- each agreed frame from below, the newest first
  pub shares : List (Share V)  -- the first of each number and executor, in order

abbrev pub held_of : {M : Type 0} → List (ℕ × M) → ℕ → Option M
held_of held n = first_at (λ h. Some h) held n

abbrev pub asked_at_all : List (Seat × ℕ) → ℕ → Bool
asked_at_all [] n = false
asked_at_all (a ∷ asked) n = nat_eq a.1 n || asked_at_all asked n

abbrev pub went_up : {M V : Type 0} → Speech M V → Filter M V → Seat → ℕ → M → Sends M
went_up sp x seat n m =
    if not (asked_at_all x.asked n) || sent_before x.asked seat n then to_all sp.ups m else []

abbrev pub answers : {M V : Type 0} → Speech M V → Filter M V → Seat → ℕ → M → Option M → Sends M
answers sp x seat n m None = went_up sp x seat n m
answers sp x seat n m (Some reply) = (seat, reply) ∷ []

abbrev pub hear_agreed : {M V : Type 0} → Speech M V → Filter M V → Seat → M → Option ℕ → Filter M V × Sends M
hear_agreed sp x seat m None = (x, [])
hear_agreed sp x seat m (Some n) =
    (record x { asked = (seat, n) ∷ x.asked }, answers sp x seat n m (held_of x.held n))

-- a reply comes to be held, and goes down where it was asked for
abbrev pub hold : {M V : Type 0} → Speech M V → Filter M V → ℕ → M → Filter M V × Sends M
hold sp x n reply =
    if is_some (held_of x.held n) then (x, [])
    else (record x { held = (n, reply) ∷ x.held }, if asked_at_all x.asked n then to_all sp.downs reply else [])

abbrev pub hear_reply : {M V : Type 0} → Speech M V → Filter M V → M → Option ℕ → Filter M V × Sends M
hear_reply sp x m None = (x, [])
hear_reply sp x m (Some n) = hold sp x n m

abbrev pub has_share : {V : Type 0} → List (Share V) → ℕ → ℕ → Bool
has_share [] n j = false
has_share (s ∷ shares) n j = (nat_eq s.number n && nat_eq s.exec j) || has_share shares n j

abbrev pub hold_made : {M V : Type 0} → Speech M V → Filter M V → ℕ → Option M → Filter M V × Sends M
hold_made sp x n None = (x, [])
hold_made sp x n (Some reply) = hold sp x n reply

abbrev pub hear_share : {M V : Type 0} → Speech M V → Filter M V → Option (Share V) → Filter M V × Sends M
hear_share sp x None = (x, [])
hear_share sp x (Some s) =
    if has_share x.shares s.number s.exec then (x, [])
    else (let kept = record x { shares = x.shares ++ s ∷ [] } in
    hold_made sp kept s.number (sp.combined s.number kept.shares))

-- a message is one of the three at most
abbrev pub filter_next : {M O V : Type 0} → Speech M V → Filter M V → Input M O → Filter M V × Sends M
filter_next sp x (Heard from m) =
    let a = hear_agreed sp x from m (sp.agreed from m) in
    let r = hear_reply sp a.0 m (sp.replied from m) in
    let s = hear_share sp r.0 (sp.shared from m) in
    (s.0, a.1 ++ r.1 ++ s.1)
filter_next sp x Tick = (x, [])
filter_next sp x (Submitted op) = (x, [])

abbrev pub filter_role : {M O V : Type 0} → Speech M V → Role (Filter M V) M O
filter_role sp = record { start = record { held = []; asked = []; shares = [] }; next = filter_next sp }
