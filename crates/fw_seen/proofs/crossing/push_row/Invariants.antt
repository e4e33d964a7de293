-- The lines so far, and those of the numbers that are left.
use Rattle.std.proofs.Common.{◌≡◌, ◌+◌, ◌-◌, ◌++◌}
use Rattle.fw_list.specs.Lists.{numbers_from}
use Rattle.fw_seen.specs.Summary.{row_lines}
use Rattle.fw_seen.proofs.crossing.push_row.Given as goal

abbrev pub invariant-loop-k : goal.invariant-loop-k
invariant-loop-k l = l.lines ++ row_lines l.row l.down (numbers_from (l.k + 1) (l.k-end - l.k)) ≡ l.fn.lines ++ row_lines l.row l.down (numbers_from 1 l.k-end)
