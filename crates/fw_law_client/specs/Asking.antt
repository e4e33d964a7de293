-- What a client has taken, asked and accepted, said of its history.
use Rattle.std.specs.Prelude.{ℕ, ◌-◌, ◌≡◌, ◌≢◌, ◌≤◌, ◌⊎◌, true, List, [], ◌∷◌, ◌++◌, reverse, Some, slice_get}
use Rattle.fw_base.specs.declared.seat.Seat.{Seat}
use Rattle.fw_trace.specs.declared.Input.{Input}
use Rattle.fw_trace.specs.declared.Input.TheVariants.{Heard, Tick, Submitted}
use Rattle.fw_trace.specs.declared.Told.{Told}
use Rattle.fw_trace.specs.Role.{kept}
use Rattle.fw_trace.specs.Client.{Speech, Client, stamp, client_role}
use Rattle.fw_trace.specs.Lists.{In}

-- the operations that were submitted, in order
abbrev pub submitted : {M O : Type 0} → List (Input M O) → List O
submitted [] = []
submitted (Submitted op ∷ h) = submitted h ++ op ∷ []
submitted (Heard from m ∷ h) = submitted h
submitted (Tick ∷ h) = submitted h

-- what was taken, in order: what was asked, and what waits
abbrev pub took : {O R : Type 0} → Client O R → List O
took c = reverse c.asked ++ c.waiting

-- the request of this stamp asks for this operation
pub record IsAsked {O R : Type 0} (c : Client O R) (s : ℕ) (op : O) : Type 0 where
  pub from : 1 ≤ s
  pub is : slice_get (reverse c.asked) (s - 1) ≡ Some op

-- a stamp that was asked, and that nothing accepted has
pub record IsOpen {O R : Type 0} (c : Client O R) (s : ℕ) : Type 0 where
  pub from : 1 ≤ s
  pub asked : s ≤ stamp c
  pub unanswered : (t : Told R) → In t c.accepted → t.stamp ≢ s

abbrev pub stamp_told : {R : Type 0} → Told R → ℕ
stamp_told t = t.stamp

-- the input is a message that tells this, under the stamp that is pending
abbrev pub Answers : {M O R : Type 0} → Speech M O R → Client O R → Input M O → Told R → Type 0
Answers sp c (Heard from m) t = (sp.told from m ≡ Some t) × (c.pending ≡ true) × (t.stamp ≡ stamp c)
Answers sp c Tick t = ⊥
Answers sp c (Submitted op) t = ⊥

-- such a message was heard
abbrev pub WasAnswered : {M O R : Type 0} → Speech M O R → List (Input M O) → Told R → Type 0
WasAnswered sp [] t = ⊥
WasAnswered sp (i ∷ h) t = Answers sp (kept (client_role sp) h) i t ⊎ WasAnswered sp h t

-- the input is a message that tells this, under a stamp that was asked
abbrev pub TellsAsked : {M O R : Type 0} → Speech M O R → Client O R → Input M O → Told R → Type 0
TellsAsked sp c (Heard from m) t = (sp.told from m ≡ Some t) × (1 ≤ t.stamp) × (t.stamp ≤ stamp c)
TellsAsked sp c Tick t = ⊥
TellsAsked sp c (Submitted op) t = ⊥

-- such a message was heard
abbrev pub WasToldAsked : {M O R : Type 0} → Speech M O R → List (Input M O) → Told R → Type 0
WasToldAsked sp [] t = ⊥
WasToldAsked sp (i ∷ h) t = TellsAsked sp (kept (client_role sp) h) i t ⊎ WasToldAsked sp h t

-- something accepted has this stamp
pub record IsAnswered {O R : Type 0} (c : Client O R) (s : ℕ) : Type 0 where
  pub told : Told R
  pub accepted : In told c.accepted
  pub same : told.stamp ≡ s

-- the request of a stamp that was asked, to a seat that it goes to
pub record IsRequestOf {M O R : Type 0} (sp : Speech M O R) (c : Client O R) (o : Seat × M) : Type 0 where
  pub number : ℕ
  pub op : O
  pub asked : IsAsked c number op
  pub to : In o.0 sp.to
  pub is : o.1 ≡ sp.request number op
