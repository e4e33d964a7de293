-- What liars know of the secrets and shares that were dealt.
use Rattle.std.specs.Prelude.{◌≡◌, ℕ, ◌+◌, Bool, true, false, ◌&&◌, ◌||◌, not, nat_eq, nat_le, List, length, filter, get_or, Option, IsTrue}
use Rattle.std.specs.List.{find, list_any}
use Rattle.std.specs.Option.{option_map}
use Rattle.fw_list.specs.Lists.{numbers_from}
use Rattle.fw_base.specs.declared.params.Params.{Params}
use Rattle.fw_base.specs.declared.seat.Seat.{Seat}
use Rattle.fw_base.specs.declared.slot.Slot.{Slot}
use Rattle.fw_base.specs.declared.slot.Slot.TheVariants as slots
use Rattle.fw_base.specs.declared.slot.Place.{Place}
use Rattle.fw_base.specs.Places.{place_fits, place_index}
use Rattle.fw_base.specs.Sizes.{executors}
use Rattle.fw_frame.specs.declared.shown.Shown.{Shown}
use Rattle.fw_hand.specs.Hands.{is_own, point_of, slot_eq}

-- ---- once

abbrev pub place_eq : Place → Place → Bool
place_eq a b = slot_eq a.slot b.slot && (nat_eq a.bit b.bit && (nat_eq a.side b.side && nat_eq a.point b.point))

-- a seat is dealt a place: it is in a slot of the seat, at the point at which the seat has its slots' values
abbrev pub dealt_to : Place → Seat → Bool
dealt_to place seat = is_own seat place.slot && nat_eq (point_of seat) place.point

-- one of these pairs shows a place
abbrev pub is_shown_in : List Shown → Place → Bool
is_shown_in pairs place = list_any (λ (pair : Shown). place_eq pair.place place) pairs

-- it was dealt to a faulty seat, or these pairs, which faulty seats were sent, show it
abbrev pub known_once : List Seat → List Shown → Place → Bool
known_once faulty pairs place = list_any (dealt_to place) faulty || is_shown_in pairs place

-- ---- by points

abbrev pub is_reply : Slot → Bool
is_reply (slots.Reply n) = true
is_reply _ = false

-- the same bit and side of a reply at another point
abbrev pub at_point : Place → ℕ → Place
at_point place point = record { slot = place.slot; bit = place.bit; side = place.side; point = point }

-- at how many of its points, from the secret itself to the last share, it is known
abbrev pub points : Params → (Place → Bool) → Place → ℕ
points p once place = length (filter (λ point. once (at_point place point)) (numbers_from 0 (executors p + 1)))

-- known once, or a secret or share of a reply that g + 1 points give
abbrev pub known_by : Params → (Place → Bool) → Place → Bool
known_by p once place = once place || (is_reply place.slot && nat_le (p.g + 1) (points p once place))

-- ---- what faulty seats know who were sent frames that show these pairs

abbrev pub is_known : Params → List Seat → List Shown → Place → Bool
is_known p faulty pairs place = known_by p (known_once faulty pairs) place

-- the first place of a list that they don't know
abbrev pub first_unknown : Params → List Seat → List Shown → List Shown → Option Place
first_unknown p faulty pairs shown = option_map (λ (pair : Shown). pair.place) (find (λ (pair : Shown). not (is_known p faulty pairs pair.place)) shown)

-- ---- a truth value for each place

-- the sizes of a deployment, and for each of its places, by its index, whether it is marked
pub record Knowledge : Type 0 where
  pub params : Params
  pub marks : List Bool

abbrev pub marked : Params → List Bool → Place → Bool
marked p marks place = get_or marks (place_index p place) false

abbrev pub is_marked : Knowledge → Place → Bool
is_marked k place = marked k.params k.marks place

-- the places that are marked are those of the deployment that are known once
abbrev pub IsKnowledgeOf : Knowledge → List Seat → List Shown → Type 0
IsKnowledgeOf k faulty pairs = (place : Place) → IsTrue (place_fits k.params place) → is_marked k place ≡ known_once faulty pairs place
