-- What a filter sends, and what it owes to whom.
use Rattle.std.specs.Prelude.{ℕ, ◌≡◌, ◌⊎◌, true, ◌||◌, not, List, [], ◌∷◌, Option, Some, None}
use Rattle.fw_base.specs.declared.seat.Seat.{Seat}
use Rattle.fw_trace.specs.declared.Input.{Input}
use Rattle.fw_trace.specs.Role.{kept, sends}
use Rattle.fw_trace.specs.Executor.{sent_before}
use Rattle.fw_trace.specs.Filter.{Speech, Filter, held_of, asked_at_all, filter_role}
use Rattle.fw_trace.specs.Lists.{In}
use Rattle.fw_source.specs.Sources.{EverSent}
use Rattle.fw_law_filter.specs.Heard.{HeardNow, WasHeard, IsAgreed, IsThisAgreed, IsAgreedBy}

-- an agreed frame goes up as it was heard: the first of its number, or one that its seat sends again, while no reply of its number is held
pub record GoesUp {M V : Type 0} (sp : Speech M V) (x : Filter M V) (o : Seat × M) (from : Seat) (m : M) : Type 0 where
  pub number : ℕ
  pub agreed : sp.agreed from m ≡ Some number
  pub unheld : held_of x.held number ≡ None
  pub first : (not (asked_at_all x.asked number) || sent_before x.asked from number) ≡ true
  pub to : In o.0 sp.ups
  pub same : o.1 ≡ m

-- a reply goes down: it is held, an agreed frame of its number was heard, and it goes where all replies go, or to the seat whose agreed frame is the newest input
pub record GoesDown {M O V : Type 0} (sp : Speech M V) (i : Input M O) (h : List (Input M O)) (o : Seat × M) : Type 0 where
  pub number : ℕ
  pub held : In (number, o.1) (kept (filter_role sp) (i ∷ h)).held
  pub asked : WasHeard (IsAgreed sp number) (i ∷ h)
  pub to : In o.0 sp.downs ⊎ HeardNow (IsAgreedBy sp o.0 number) i

-- the agreed frame owes the seat the reply of its number: each seat below where none is held yet, else the seat that sent it
abbrev pub Owes : {M V : Type 0} → Speech M V → ℕ → Seat → Option M → Seat → M → Type 0
Owes sp n seat None from m = (sp.agreed from m ≡ Some n) × In seat sp.downs
Owes sp n seat (Some reply) from m = (sp.agreed from m ≡ Some n) × (from ≡ seat)

-- such a frame was heard
abbrev pub IsOwed : {M O V : Type 0} → Speech M V → ℕ → Seat → List (Input M O) → Type 0
IsOwed sp n seat [] = ⊥
IsOwed sp n seat (i ∷ h) = HeardNow (Owes sp n seat (held_of (kept (filter_role sp) h).held n)) i ⊎ IsOwed sp n seat h

-- an agreed frame of this number was heard, and was sent to each seat above
pub record WentUp {M O V : Type 0} (sp : Speech M V) (n : ℕ) (h : List (Input M O)) : Type 0 where
  pub frame : M
  pub heard : WasHeard (IsThisAgreed sp n frame) h
  pub sent : (seat : Seat) → In seat sp.ups → EverSent (sends (filter_role sp)) h (seat, frame)
