-- How long a frame may be.
use Rattle.std.specs.Prelude.{ℕ, ◌≤◌, List, length}
use Rattle.fw_list.specs.declared.limits.TheConstants.{LONGEST_FRAME}

-- a byte at least, and at most as many as the longest frame has
abbrev pub HasFrameLength : List ℕ → Type 0
HasFrameLength bytes = (1 ≤ length bytes) × (length bytes ≤ LONGEST_FRAME)
