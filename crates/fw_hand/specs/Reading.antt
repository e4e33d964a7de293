-- What the parts of a hand file are, one behind the other.
use Rattle.std.specs.Prelude.{◌≡◌, ℕ, ◌*◌, ◌<◌, ◌≤◌, ◌^◌, List, ◌++◌, length, codes, map, Option, Some, None, IfSome, IsTrue, All, option_map}
use Rattle.fw_list.specs.Numbers.{u32}
use Rattle.fw_wire.specs.Reading.{then_text, ThenFits}
use Rattle.fw_base.specs.declared.params.Params.{Params}
use Rattle.fw_base.specs.declared.seat.Seat.{Seat}
use Rattle.fw_base.specs.declared.slot.Slot.{Slot}
use Rattle.fw_base.specs.Seats.{fits, seat_index}
use Rattle.fw_base.specs.Sizes.{accepted}
use Rattle.fw_directory.specs.Directories.{PlainDirectory, IsDirectory, rows}
use Rattle.fw_list.specs.declared.limits.TheConstants.{ROW_LEN}
use Rattle.fw_hand.specs.declared.file.TheConstants.{PUBLIC}
use Rattle.fw_hand.specs.declared.hand.Held.{Held}
use Rattle.fw_hand.specs.declared.hand.HeldKey.{HeldKey}
use Rattle.fw_hand.specs.Hands.{PlainHand, IsListed, IsKey, IsHandIn, point_of, slots_of, clients_of}
use Rattle.fw_hand.specs.Files.{params_bytes, hand_file}

-- the values of a list belong to these keys, in their order, and each fits
abbrev pub AreOf : {A K : Type 0} → (A → K) → (A → Type 0) → List K → List A → Type 0
AreOf key Fits keys xs = (map key xs ≡ keys) × All Fits xs

-- ---- the head

abbrev pub IsWord : ℕ → Type 0
IsWord n = n < 2 ^ 32

abbrev pub two_bytes : ℕ × ℕ → List ℕ
two_bytes = then_text u32 (λ _. u32)

abbrev pub AreTwo : ℕ × ℕ → Type 0
AreTwo = ThenFits IsWord (λ _. IsWord)

abbrev pub four_bytes : (ℕ × ℕ) × (ℕ × ℕ) → List ℕ
four_bytes = then_text two_bytes (λ _. two_bytes)

abbrev pub AreFour : (ℕ × ℕ) × (ℕ × ℕ) → Type 0
AreFour = ThenFits AreTwo (λ _. AreTwo)

-- each size is a number of four bytes
pub record AreWords (p : Params) : Type 0 where
  pub f : IsWord p.f
  pub g : IsWord p.g
  pub h : IsWord p.h
  pub numbers : IsWord p.numbers
  pub views : IsWord p.views
  pub clients : IsWord p.clients
  pub stamps : IsWord p.stamps
  pub pipe : IsWord p.pipe

abbrev pub lettered_bytes : Params → List ℕ
lettered_bytes p = codes "fwh1" ++ params_bytes p

abbrev pub AreAccepted : Params → Type 0
AreAccepted p = IsTrue (accepted p)

-- the index of a seat, or the mark of a public file
abbrev pub mark_of : Params → Option Seat → ℕ
mark_of p None = PUBLIC
mark_of p (Some seat) = seat_index p seat

abbrev pub mark_bytes : Params → Option Seat → List ℕ
mark_bytes p seat = u32 (mark_of p seat)

abbrev pub IsSeatOf : Params → Option Seat → Type 0
IsSeatOf p seat = IfSome seat (λ s. IsTrue (fits p s))

abbrev pub head_bytes : Params × Option Seat → List ℕ
head_bytes = then_text lettered_bytes mark_bytes

abbrev pub IsHead : Params × Option Seat → Type 0
IsHead = ThenFits AreAccepted IsSeatOf

-- ---- the parts behind it

-- a directory of these sizes
abbrev pub IsDirectoryFor : Params → PlainDirectory → Type 0
IsDirectoryFor p d = (d.params ≡ p) × IsDirectory d

-- the values of a slot, each with its digest
abbrev pub IsHeldAt : PlainDirectory → ℕ → Slot → Held → Type 0
IsHeldAt d point slot h = (h.slot ≡ slot) × IsListed d point h

abbrev pub IsHalf : List ℕ → Type 0
IsHalf bytes = length bytes ≡ 32

abbrev pub IsKeyOf : ℕ → HeldKey → Type 0
IsKeyOf client k = (k.client ≡ client) × IsKey k

abbrev pub AreHeldBy : PlainDirectory → Seat → List Held → Type 0
AreHeldBy d seat held = AreOf (λ h. h.slot) (IsListed d (point_of seat)) (slots_of d.params seat) held

abbrev pub AreKeysFor : Params → Seat → List HeldKey → Type 0
AreKeysFor p seat keys = AreOf (λ k. k.client) IsKey (clients_of p seat) keys

-- a hand of this seat
abbrev pub IsHandOf : PlainDirectory → Seat → PlainHand → Type 0
IsHandOf d seat h = (h.seat ≡ seat) × IsHandIn d h

-- whose hand it is, or nobody's
abbrev pub IsPartOf : PlainDirectory → Option Seat → Option PlainHand → Type 0
IsPartOf d seat hand = (option_map (λ h. h.seat) hand ≡ seat) × IfSome hand (IsHandIn d)

abbrev pub file_bytes : PlainDirectory × Option PlainHand → List ℕ
file_bytes x = hand_file x.0 x.1

-- bytes that begin with the head of a hand file, and go on with as many as the directory of its sizes has
pub record HasDirectory (bytes : List ℕ) : Type 0 where
  pub head : Params × Option Seat
  pub fits : IsHead head
  pub rest : List ℕ
  pub begins : bytes ≡ head_bytes head ++ rest
  pub whole : ROW_LEN * rows head.0 ≤ length rest

pub record IsFile (x : PlainDirectory × Option PlainHand) : Type 0 where
  pub directory : IsDirectory x.0
  pub hand : IfSome x.1 (IsHandIn x.0)
