-- The deal: what a seed gives to each seat, and the directory of its digests.
use Rattle.std.specs.Prelude.{◌≡◌, ◌≤◌, ℕ, List, [], map, Option, IsTrue, IfSome, option_map}
use Rattle.fw_list.specs.Lists.{numbers_from}
use Rattle.fw_base.specs.declared.params.Params.{Params}
use Rattle.fw_base.specs.declared.seat.Seat.{Seat}
use Rattle.fw_base.specs.declared.seat.Seat.TheVariants.{Exec}
use Rattle.fw_base.specs.declared.slot.Slot.{Slot}
use Rattle.fw_base.specs.declared.slot.Place.{Place}
use Rattle.fw_base.specs.Seats.{fits}
use Rattle.fw_base.specs.Places.{slot_fits, last_point, place_fits}
use Rattle.fw_text.specs.Texts.{hash, Value}
use Rattle.fw_op.specs.declared.start.Start.{Start}
use Rattle.fw_record.specs.Records.{starts_fit}
use Rattle.fw_secret.specs.Dealt.{Origin, dealt, slot_values, body_key}
use Rattle.fw_hand.specs.declared.hand.Held.{Held}
use Rattle.fw_hand.specs.declared.hand.HeldKey.{HeldKey}
use Rattle.fw_directory.specs.Directories.{PlainDirectory, IsDirectory, digest_at}
use Rattle.fw_hand.specs.Hands.{PlainHand, slots_of, point_of, clients_of}
use Rattle.fw_hand.specs.Files.{hand_file}

-- what a deal follows from: sizes, seed, and the records that executors start with
pub record PlainDeal : Type 0 where
  pub origin : Origin
  pub starts : List Start

-- the directory has the digest of each value that is dealt
pub record IsDirectoryOf (o : Origin) (d : PlainDirectory) : Type 0 where
  pub sizes : d.params ≡ o.params
  pub whole : IsDirectory d
  pub each : (place : Place) → IsTrue (place_fits o.params place) → digest_at d place ≡ hash (Value place (dealt o place))

-- the slot is one of the deployment, and has values at the point
pub record HasValues (p : Params) (point : ℕ) (slot : Slot) : Type 0 where
  pub fits : IsTrue (slot_fits p slot)
  pub at : point ≤ last_point p slot

-- a slot with its values at a point
abbrev pub held_at : Origin → ℕ → Slot → Held
held_at o point slot = record { slot = slot; values = slot_values o slot point }

-- what a seat has of a slot, and of a client's keys
abbrev pub held_of : Origin → Seat → Slot → Held
held_of o seat slot = held_at o (point_of seat) slot

abbrev pub key_of : Origin → ℕ → HeldKey
key_of o client = record { client = client; key = body_key o client }

-- an executor has the records
abbrev pub starts_of : Seat → List Start → List Start
starts_of (Exec j) starts = starts
starts_of _ starts = []

-- the hand of a seat: its slots' values and its keys, and no others
abbrev pub hand_of : PlainDeal → Seat → PlainHand
hand_of deal seat = record {
  seat = seat;
  held = map (held_of deal.origin seat) (slots_of deal.origin.params seat);
  keys = map (key_of deal.origin) (clients_of deal.origin.params seat);
  starts = starts_of seat deal.starts;
}

-- what a deal keeps is the deal's: the digests, the keys of all clients, and records that a service can start with
pub record IsDealt (deal : PlainDeal) (directory : PlainDirectory) (keys : List HeldKey) : Type 0 where
  pub digests : IsDirectoryOf deal.origin directory
  pub of_clients : keys ≡ map (key_of deal.origin) (numbers_from 0 deal.origin.params.clients)
  pub records : IsTrue (starts_fit deal.origin.params.clients deal.starts)

-- the text is the hand file of a deal: of a seat of its deployment, or the public one
pub record IsDealtFile (deal : PlainDeal) (seat : Option Seat) (text : List ℕ) : Type 0 where
  pub directory : PlainDirectory
  pub dealt : IsDirectoryOf deal.origin directory
  pub fits : IfSome seat (λ s. IsTrue (fits deal.origin.params s))
  pub file : text ≡ hand_file directory (option_map (hand_of deal) seat)
