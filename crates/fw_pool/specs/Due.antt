-- Which frames are due: those to correct seats that were never delivered. Which seats are correct is given.
use Rattle.std.specs.Prelude.{ℕ, Bool, false, ◌&&◌, ◌||◌, not, Option, None, Some, List, slice_get, get_or}
use Rattle.fw_base.specs.declared.seat.Seat.{Seat}
use Rattle.fw_trace.specs.declared.Sent.{Sent}
use Rattle.fw_pool.specs.Notes.{Frames}

-- whether a mark stands at a place
abbrev pub is_marked : List Bool → ℕ → Bool
is_marked marks k = get_or marks k false

-- whether a frame that was delivered or not is due
abbrev pub is_due : (Seat → Bool) → Bool → Sent (List ℕ) → Bool
is_due correct delivered s = correct s.to && not delivered

-- whether it isn't between correct seats, or was delivered
abbrev pub is_settled : (Seat → Bool) → Bool → Sent (List ℕ) → Bool
is_settled correct delivered s = not (correct s.from && correct s.to) || delivered

-- whether the frame at a place is due; where there is none it isn't
abbrev pub due_of : (Seat → Bool) → Bool → Option (Sent (List ℕ)) → Bool
due_of correct delivered None = false
due_of correct delivered (Some s) = is_due correct delivered s

abbrev pub due_at : (Seat → Bool) → List Bool → Frames → ℕ → Bool
due_at correct marks frames k = due_of correct (is_marked marks k) (slice_get frames k)
