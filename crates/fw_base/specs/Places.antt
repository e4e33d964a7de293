-- The slots that are signed, and the places of the secrets that sign them.
use Rattle.std.specs.Prelude.{ℕ, ◌+◌, ◌-◌, ◌*◌, Bool, ◌&&◌, nat_lt, Option, Some, None}
use Rattle.fw_base.specs.declared.params.Params.{Params}
use Rattle.fw_base.specs.declared.seat.Seat.{Seat}
use Rattle.fw_base.specs.declared.seat.Seat.TheVariants.{Agree, Client}
use Rattle.fw_base.specs.declared.slot.Slot.{Slot}
use Rattle.fw_base.specs.declared.slot.Slot.TheVariants as slots
use Rattle.fw_base.specs.declared.slot.Place.{Place}
use Rattle.fw_list.specs.Numbers.{within}
use Rattle.fw_base.specs.Sizes.{agreements, executors, keys}

-- the kind of a slot, and the three numbers that name it beside the kind
pub record Name : Type 0 where
  pub kind : ℕ
  pub a : ℕ
  pub b : ℕ
  pub c : ℕ

abbrev pub slot_name : Slot → Name
slot_name (slots.Prepare v n i) = record { kind = 1; a = v; b = n; c = i }
slot_name (slots.Commit v n i) = record { kind = 2; a = v; b = n; c = i }
slot_name (slots.Change v i) = record { kind = 3; a = v; b = i; c = 0 }
slot_name (slots.NewView v i) = record { kind = 4; a = v; b = i; c = 0 }
slot_name (slots.Request c s) = record { kind = 5; a = c; b = s; c = 0 }
slot_name (slots.Reply n) = record { kind = 6; a = n; b = 0; c = 0 }

-- who alone is dealt the secrets of a slot; those of a reply are dealt to nobody
abbrev pub owner : Slot → Option Seat
owner (slots.Prepare v n i) = Some (Agree i)
owner (slots.Commit v n i) = Some (Agree i)
owner (slots.Change v i) = Some (Agree i)
owner (slots.NewView v i) = Some (Agree i)
owner (slots.Request c s) = Some (Client c)
owner (slots.Reply n) = None

-- votes of one kind: for each view and number one of each agreement node
abbrev pub votes : Params → ℕ
votes p = p.views * p.numbers * agreements p

-- the slots before those of replies, in order: prepare votes, commit votes, view changes, new views, requests
abbrev pub slot_index : Params → Slot → ℕ
slot_index p (slots.Prepare v n i) = (v * p.numbers + (n - 1)) * agreements p + i
slot_index p (slots.Commit v n i) = votes p + (v * p.numbers + (n - 1)) * agreements p + i
slot_index p (slots.Change v i) = 2 * votes p + v * agreements p + i
slot_index p (slots.NewView v i) = 2 * votes p + p.views * agreements p + v * agreements p + i
slot_index p (slots.Request c s) = 2 * votes p + 2 * (p.views * agreements p) + c * p.stamps + (s - 1)
slot_index p (slots.Reply n) = 0

-- whether a slot is one of the deployment: views count from 0, numbers and stamps from 1
abbrev pub slot_fits : Params → Slot → Bool
slot_fits p (slots.Prepare v n i) = nat_lt v p.views && within 1 n p.numbers && nat_lt i (agreements p)
slot_fits p (slots.Commit v n i) = nat_lt v p.views && within 1 n p.numbers && nat_lt i (agreements p)
slot_fits p (slots.Change v i) = nat_lt v p.views && nat_lt i (agreements p)
slot_fits p (slots.NewView v i) = nat_lt v p.views && nat_lt i (agreements p)
slot_fits p (slots.Request c s) = nat_lt c p.clients && within 1 s p.stamps
slot_fits p (slots.Reply n) = within 1 n p.numbers

-- the last point of a slot: a reply has one for each executor beside the secret
abbrev pub last_point : Params → Slot → ℕ
last_point p (slots.Reply n) = executors p
last_point p _ = 0

-- whether a place is one of the deployment
abbrev pub place_fits : Params → Place → Bool
place_fits p place =
    slot_fits p place.slot && nat_lt place.bit 256 && nat_lt place.side 2 && within 0 place.point (last_point p place.slot)

-- the slots in order, and behind them those of replies, number by number, each with its points
abbrev pub row_index : Params → Slot → ℕ → ℕ
row_index p (slots.Reply n) point = keys p + (n - 1) * (executors p + 1) + point
row_index p slot point = slot_index p slot

-- the place's index among all: 512 for each row, by bit and side
abbrev pub place_index : Params → Place → ℕ
place_index p place = row_index p place.slot place.point * 512 + 2 * place.bit + place.side
