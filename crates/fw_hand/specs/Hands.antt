-- The hand of a seat: the values of its slots and the keys that it is dealt, and of an executor the records to start with.
use Rattle.std.specs.Prelude.{◌≡◌, ℕ, ◌+◌, ◌<◌, Bool, true, false, ◌&&◌, nat_eq, List, [], ◌∷◌, ◌++◌, length, map, flat_map, Option, Some, None, IsTrue, All, if◌then◌else◌}
use Rattle.std.specs.List.{list_any}
use Rattle.fw_list.specs.Lists.{numbers_from}
use Rattle.fw_list.specs.declared.limits.TheConstants.{ROW_LEN}
use Rattle.fw_base.specs.declared.params.Params.{Params}
use Rattle.fw_base.specs.declared.seat.Seat.{Seat}
use Rattle.fw_base.specs.declared.seat.Seat.TheVariants.{Agree, Exec, Filter, Client}
use Rattle.fw_base.specs.Seats.{fits, seat_eq}
use Rattle.fw_base.specs.declared.slot.Slot.{Slot}
use Rattle.fw_base.specs.declared.slot.Slot.TheVariants.{Prepare, Commit, Change, NewView, Request, Reply}
use Rattle.fw_base.specs.Places.{owner}
use Rattle.fw_text.specs.Bits.{value_at}
use Rattle.fw_text.specs.Texts.{hash, Value}
use Rattle.fw_lamport.specs.Signature.{place_at}
use Rattle.fw_seal.specs.declared.types.BodyKey.{BodyKey}
use Rattle.fw_op.specs.declared.start.Start.{Start}
use Rattle.fw_record.specs.Records.{starts_fit}
use Rattle.fw_directory.specs.Directories.{PlainDirectory, digest_at}
use Rattle.fw_hand.specs.declared.hand.Held.{Held}
use Rattle.fw_hand.specs.declared.hand.HeldKey.{HeldKey}

pub record PlainHand : Type 0 where
  pub seat : Seat
  pub held : List Held
  pub keys : List HeldKey
  pub starts : List Start

-- ---- whose is what

-- an agreement node's votes of a phase, by view and number
abbrev pub votes_of : (ℕ → ℕ → Slot) → Params → List Slot
votes_of vote p = flat_map (λ v. map (vote v) (numbers_from 1 p.numbers)) (numbers_from 0 p.views)

-- the slots of a seat, in the order of their indices
abbrev pub slots_of : Params → Seat → List Slot
slots_of p (Agree i) =
    votes_of (λ v n. Prepare v n i) p ++ votes_of (λ v n. Commit v n i) p
    ++ map (λ v. Change v i) (numbers_from 0 p.views) ++ map (λ v. NewView v i) (numbers_from 0 p.views)
slots_of p (Exec j) = map Reply (numbers_from 1 p.numbers)
slots_of p (Filter r c) = []
slots_of p (Client c) = map (Request c) (numbers_from 1 p.stamps)

-- whether a slot is a seat's: its owner's, and a reply each executor's
abbrev pub is_of : Option Seat → Seat → Bool
is_of None seat = false
is_of (Some one) seat = seat_eq one seat

abbrev pub is_own : Seat → Slot → Bool
is_own (Exec j) (Reply n) = true
is_own seat slot = is_of (owner slot) seat

-- the point at which a seat has the values of its slots
abbrev pub point_of : Seat → ℕ
point_of (Exec j) = j + 1
point_of _ = 0

-- the clients whose keys a seat has
abbrev pub clients_of : Params → Seat → List ℕ
clients_of p (Exec j) = numbers_from 0 p.clients
clients_of p (Client c) = c ∷ []
clients_of p _ = []

-- ---- what a hand has

abbrev pub slot_eq : Slot → Slot → Bool
slot_eq (Prepare v n i) (Prepare w m j) = nat_eq v w && (nat_eq n m && nat_eq i j)
slot_eq (Commit v n i) (Commit w m j) = nat_eq v w && (nat_eq n m && nat_eq i j)
slot_eq (Change v i) (Change w j) = nat_eq v w && nat_eq i j
slot_eq (NewView v i) (NewView w j) = nat_eq v w && nat_eq i j
slot_eq (Request c s) (Request d t) = nat_eq c d && nat_eq s t
slot_eq (Reply n) (Reply m) = nat_eq n m
slot_eq _ _ = false

-- whether a slot stands in a list
abbrev pub is_among : Slot → List Slot → Bool
is_among slot slots = list_any (λ s. slot_eq s slot) slots

-- the values of a slot
abbrev pub values_in : List Held → Slot → Option (List ℕ)
values_in [] slot = None
values_in (h ∷ held) slot = if slot_eq h.slot slot then Some h.values else values_in held slot

-- the keys of a client
abbrev pub key_in : List HeldKey → ℕ → Option BodyKey
key_in [] client = None
key_in (k ∷ keys) client = if nat_eq k.client client then Some k.key else key_in keys client

-- each of a slot's values has its digest in the directory
abbrev pub AreListed : PlainDirectory → Slot → ℕ → List ℕ → Type 0
AreListed d slot point values = (k : ℕ) → k < 512 → hash (Value (place_at slot point k) (value_at values k)) ≡ digest_at d (place_at slot point k)

-- there are 512 of them, each with its digest
pub record IsListed (d : PlainDirectory) (point : ℕ) (h : Held) : Type 0 where
  pub whole : length h.values ≡ ROW_LEN
  pub each : (k : ℕ) → k < 512 → hash (Value (place_at h.slot point k) (value_at h.values k)) ≡ digest_at d (place_at h.slot point k)

-- two keys of 32 bytes
pub record IsKey (k : HeldKey) : Type 0 where
  pub stream : length k.key.stream_key ≡ 32
  pub mac : length k.key.mac_key ≡ 32

-- the records of a seat: of an executor a list to start with, of any other none
abbrev pub AreStartsOf : Params → Seat → List Start → Type 0
AreStartsOf p (Exec j) starts = IsTrue (starts_fit p.clients starts)
AreStartsOf p _ starts = starts ≡ []

-- a hand of a seat of the directory's deployment: the seat's slots and keys and no others, each value with its digest
pub record IsHandIn (d : PlainDirectory) (h : PlainHand) : Type 0 where
  pub seat : IsTrue (fits d.params h.seat)
  pub slots : map (λ s. s.slot) h.held ≡ slots_of d.params h.seat
  pub listed : All (IsListed d (point_of h.seat)) h.held
  pub clients : map (λ k. k.client) h.keys ≡ clients_of d.params h.seat
  pub keys : All IsKey h.keys
  pub starts : AreStartsOf d.params h.seat h.starts
