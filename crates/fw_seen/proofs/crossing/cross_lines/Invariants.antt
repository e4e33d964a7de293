-- The lines so far, and those of the rows that are left.
use Rattle.std.proofs.Common.{◌≡◌, ◌-◌, ◌++◌}
use Rattle.std.specs.Prelude.{filter}
use Rattle.fw_list.specs.Lists.{numbers_from}
use Rattle.fw_fair.specs.Correct.{is_whole}
use Rattle.fw_seen.specs.Summary.{cross_lines}
use Rattle.fw_seen.proofs.crossing.cross_lines.Given as goal

abbrev pub invariant-loop-row : goal.invariant-loop-row
invariant-loop-row l =
    l.lines ++ cross_lines l.params l.pool (filter (is_whole l.params l.faulty) (numbers_from l.row (l.row-end - l.row))) ≡ cross_lines l.params l.pool (filter (is_whole l.params l.faulty) (numbers_from 0 l.row-end))
