-- What liars know after a pool, which texts it keeps, and why a frame may not be appended to it.
use Rattle.std.specs.Prelude.{ℕ, Bool, true, false, List, [], flat_map, Option, None, Some, option_map, if◌then◌else◌}
use Rattle.fw_base.specs.declared.seat.Seat.{Seat}
use Rattle.fw_base.specs.declared.slot.Place.{Place}
use Rattle.fw_step.specs.Fitting.{is_faulty}
use Rattle.fw_trace.specs.declared.Sent.{Sent}
use Rattle.fw_frame.specs.declared.shown.Shown.{Shown}
use Rattle.fw_frame.specs.declared.shown.Text.{Text}
use Rattle.fw_secret.specs.Dealt.{Origin}
use Rattle.fw_directory.specs.Directories.{PlainDirectory}
use Rattle.fw_know.specs.Known.{is_known, first_unknown}
use Rattle.fw_know.specs.Books.{first_clash}
use Rattle.fw_rules.specs.World.{over}
use Rattle.fw_fair.specs.declared.fault.Fault.{Fault}
use Rattle.fw_fair.specs.declared.fault.Fault.TheVariants as faults
use Rattle.fw_fair.specs.Showing.{shown_in, kept_in}

abbrev pub Pool : Type 0
Pool = List (Sent (List ℕ))

-- ---- known

-- what the faulty seats were shown: by each frame that was sent to one of them
abbrev pub told_by : PlainDirectory → List Seat → Sent (List ℕ) → List Shown
told_by d faulty s = if is_faulty faulty s.to then shown_in d s.message else []

abbrev pub told : PlainDirectory → List Seat → Pool → List Shown
told d faulty pool = flat_map (told_by d faulty) pool

-- whether they know a place
abbrev pub knows : PlainDirectory → List Seat → Pool → Place → Bool
knows d faulty pool place = is_known d.params faulty (told d faulty pool) place

-- the first place that bytes show and that they don't know
abbrev pub unknown_in : PlainDirectory → List Seat → Pool → List ℕ → Option Place
unknown_in d faulty pool bytes = first_unknown d.params faulty (told d faulty pool) (shown_in d bytes)

-- ---- kept

abbrev pub kept : Origin → PlainDirectory → Pool → List Text
kept o d pool = flat_map (λ (s : Sent (List ℕ)). kept_in o d s.message) pool

-- ---- why a frame may not be appended

-- too much would be sent
abbrev pub limit_of : Pool → Sent (List ℕ) → Option Fault
limit_of pool s = option_map faults.Limit (over pool s)

-- that, but first: a text of its bytes has the digest of another that is kept
abbrev pub collision_or_limit : Option (Text × Text) → Option Fault → Option Fault
collision_or_limit None limit = limit
collision_or_limit (Some two) limit = Some (faults.Collision two.0.text two.1.text)

abbrev pub sending_fault : Origin → PlainDirectory → Pool → Sent (List ℕ) → Option Fault
sending_fault o d pool s = collision_or_limit (first_clash (kept o d pool) (kept_in o d s.message)) (limit_of pool s)

-- that, but of a lie first: it shows a place that the faulty seats don't know
abbrev pub unknown_or : Option Place → Option Fault → Option Fault
unknown_or None fault = fault
unknown_or (Some place) fault = Some (faults.Unknown place)

abbrev pub fault_of : Origin → PlainDirectory → List Seat → Bool → Pool → Sent (List ℕ) → Option Fault
fault_of o d faulty false pool s = sending_fault o d pool s
fault_of o d faulty true pool s = unknown_or (unknown_in d faulty pool s.message) (sending_fault o d pool s)
