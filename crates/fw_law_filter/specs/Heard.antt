-- What a filter has heard and holds, said of its history.
use Rattle.std.specs.Prelude.{ℕ, ◌≡◌, ◌⊎◌, false, nat_eq, List, [], ◌∷◌, ◌++◌, Some, None}
use Rattle.fw_base.specs.declared.seat.Seat.{Seat}
use Rattle.fw_trace.specs.declared.Input.{Input}
use Rattle.fw_trace.specs.declared.Input.TheVariants.{Heard, Tick, Submitted}
use Rattle.fw_trace.specs.declared.Share.{Share}
use Rattle.fw_trace.specs.Role.{kept}
use Rattle.fw_trace.specs.Filter.{Speech, held_of, has_share, filter_role}

-- the input is a message of which this holds
abbrev pub HeardNow : {M O : Type 0} → (Seat → M → Type 0) → Input M O → Type 0
HeardNow P (Heard from m) = P from m
HeardNow P Tick = ⊥
HeardNow P (Submitted op) = ⊥

-- a message was heard of which this holds
abbrev pub WasHeard : {M O : Type 0} → (Seat → M → Type 0) → List (Input M O) → Type 0
WasHeard P [] = ⊥
WasHeard P (i ∷ h) = HeardNow P i ⊎ WasHeard P h

-- an agreed frame of this number
abbrev pub IsAgreed : {M V : Type 0} → Speech M V → ℕ → Seat → M → Type 0
IsAgreed sp n from m = sp.agreed from m ≡ Some n

-- this very agreed frame
abbrev pub IsThisAgreed : {M V : Type 0} → Speech M V → ℕ → M → Seat → M → Type 0
IsThisAgreed sp n frame from m = (m ≡ frame) × (sp.agreed from m ≡ Some n)

-- an agreed frame of this number from this seat
abbrev pub IsAgreedBy : {M V : Type 0} → Speech M V → Seat → ℕ → Seat → M → Type 0
IsAgreedBy sp seat n from m = (from ≡ seat) × (sp.agreed from m ≡ Some n)

-- a reply of this number
abbrev pub IsReply : {M V : Type 0} → Speech M V → ℕ → Seat → M → Type 0
IsReply sp n from m = sp.replied from m ≡ Some n

-- this very reply
abbrev pub IsThisReply : {M V : Type 0} → Speech M V → ℕ → M → Seat → M → Type 0
IsThisReply sp n reply from m = (m ≡ reply) × (sp.replied from m ≡ Some n)

-- this share
abbrev pub IsShare : {M V : Type 0} → Speech M V → Share V → Seat → M → Type 0
IsShare sp s from m = sp.shared from m ≡ Some s

-- what shares make of a number is what those of that number make
pub record CombinesByNumber {M V : Type 0} (sp : Speech M V) : Type 0 where
  pub nothing : (n : ℕ) → sp.combined n [] ≡ None
  pub others : (n : ℕ) (shares : List (Share V)) (s : Share V) → nat_eq s.number n ≡ false → sp.combined n (shares ++ s ∷ []) ≡ sp.combined n shares

-- the shares that were kept at some moment make this reply
abbrev pub WasMade : {M O V : Type 0} → Speech M V → ℕ → M → List (Input M O) → Type 0
WasMade sp n reply [] = ⊥
WasMade sp n reply (i ∷ h) = (sp.combined n (kept (filter_role sp) (i ∷ h)).shares ≡ Some reply) ⊎ WasMade sp n reply h

-- no two shares are of one number by one executor
abbrev pub AreApart : {V : Type 0} → List (Share V) → Type 0
AreApart [] = Unit {0}
AreApart (s ∷ shares) = (has_share shares s.number s.exec ≡ false) × AreApart shares

-- no number has two replies
abbrev pub AreOnce : {M : Type 0} → List (ℕ × M) → Type 0
AreOnce [] = Unit {0}
AreOnce (reply ∷ held) = (held_of held reply.0 ≡ None) × AreOnce held
