-- How many inputs of a log are submissions.
use Rattle.std.specs.Prelude.{ℕ, ◌+◌, Bool, false, [], ◌∷◌, if◌then◌else◌}
use Rattle.fw_base.specs.declared.seat.Seat.{Seat}
use Rattle.fw_base.specs.declared.seat.Seat.TheVariants.{Client}
use Rattle.fw_trace.specs.declared.Input.TheVariants.{Submitted}
use Rattle.fw_node.specs.Histories.{Taken}
use Rattle.fw_pool.specs.Notes.{Log}

-- whether it is a submission to a correct client; which seats are correct is given
abbrev pub is_submission : (Seat → Bool) → Seat → Taken → Bool
is_submission correct (Client c) (Submitted op) = correct (Client c)
is_submission correct seat input = false

-- how many of a log are
abbrev pub submissions : (Seat → Bool) → Log → ℕ
submissions correct [] = 0
submissions correct (l ∷ log) = if is_submission correct l.seat l.input then submissions correct log + 1 else submissions correct log
