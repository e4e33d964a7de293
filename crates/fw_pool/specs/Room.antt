-- How much more may be sent.
use Rattle.std.specs.Prelude.{ℕ, ◌+◌, nat_lt, [], ◌∷◌, length, Option, Some, None, Result, Ok, Err, if◌then◌else◌}
use Rattle.fw_node.specs.Histories.{Out}
use Rattle.fw_rules.specs.declared.limits.Which.{Which}
use Rattle.fw_rules.specs.declared.limits.Which.TheVariants as which
use Rattle.fw_rules.specs.declared.limits.TheConstants.{MOST_FRAMES, MOST_BYTES}

-- which limit a frame of a length would pass, after so many frames and bytes
abbrev pub over_by : ℕ → ℕ → ℕ → Option Which
over_by frames bytes len =
    if nat_lt frames MOST_FRAMES then (if nat_lt MOST_BYTES (bytes + len) then Some which.Bytes else None) else Some which.Frames

-- how many bytes there are after these frames, or which limit the first of them passes that passes one
abbrev pub room : ℕ → ℕ → Out → Result ℕ Which
room frames bytes [] = Ok bytes
room frames bytes (o ∷ out) =
    elim (over_by frames bytes (length o.1)) [ Some f ↦ Err f | None ↦ room (frames + 1) (bytes + length o.1) out ]
