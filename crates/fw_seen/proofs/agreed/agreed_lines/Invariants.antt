-- The lines so far, and those of the numbers that are left.
use Rattle.std.proofs.Common.{◌≡◌, ◌+◌, ◌-◌, ◌++◌, map}
use Rattle.fw_list.specs.Lists.{numbers_from}
use Rattle.fw_trace.specs.Lists.{front_of}
use Rattle.fw_trace.specs.Run as runs
use Rattle.fw_rules.specs.World.{agreed_in}
use Rattle.fw_seen.specs.Summary.{agreed_lines}
use Rattle.fw_seen.proofs.agreed.agreed_lines.Given as goal

abbrev pub invariant-loop-k : goal.invariant-loop-k
invariant-loop-k g l =
    l.lines ++ agreed_lines l.keys (l.k + 1) (front_of (map (runs.entry_at (agreed_in l.directory) l.pool) (numbers_from (l.k + 1) (l.k-end - l.k))))
    ≡ agreed_lines l.keys 1 (runs.agreed_list (agreed_in l.directory) l.pool)
