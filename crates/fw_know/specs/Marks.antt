-- Marks for the places of a deployment, on the way.
use Rattle.std.specs.Prelude.{◌≡◌, ℕ, ◌*◌, Bool, false, ◌&&◌, ◌||◌, nat_eq, nat_lt, List, length, IsTrue}
use Rattle.fw_base.specs.declared.params.Params.{Params}
use Rattle.fw_base.specs.declared.slot.Slot.{Slot}
use Rattle.fw_base.specs.declared.slot.Place.{Place}
use Rattle.fw_base.specs.Places.{place_fits}
use Rattle.fw_base.specs.Sizes.{accepted}
use Rattle.fw_directory.specs.Directories.{rows}
use Rattle.fw_hand.specs.Hands.{is_among, slot_eq}
use Rattle.fw_know.specs.Known.{marked}

-- one for each place
pub record AreMarks (p : Params) (marks : List Bool) : Type 0 where
  pub sizes : IsTrue (accepted p)
  pub whole : length marks ≡ 512 * rows p

-- those of the deployment's places that pass a test are marked besides
abbrev pub Marks : Params → (Place → Bool) → List Bool → List Bool → Type 0
Marks p test before after = (place : Place) → IsTrue (place_fits p place) → marked p after place ≡ (marked p before place || test place)

-- a place is of a slot, at a point
abbrev pub is_of : Slot → ℕ → Place → Bool
is_of slot point place = slot_eq slot place.slot && nat_eq point place.point

-- and at a bit, or at one before it
abbrev pub is_at : Slot → ℕ → ℕ → Place → Bool
is_at slot point bit place = is_of slot point place && nat_eq bit place.bit

abbrev pub is_before : Slot → ℕ → ℕ → Place → Bool
is_before slot point bit place = is_of slot point place && nat_lt place.bit bit

-- a place is of one of these slots, at a point
abbrev pub is_of_any : List Slot → ℕ → Place → Bool
is_of_any slots point place = is_among place.slot slots && nat_eq point place.point
