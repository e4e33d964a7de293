-- The invariant of the loop of `add_all_accepted`.
use Rattle.std.proofs.Common.{◌≡◌, ◌++◌, take}
use Rattle.std.specs.List.{flat_map}
use Rattle.fw_report.specs.Report.{accept_line}
use Rattle.fw_report.proofs.lines.add_all_accepted.Given as goal

abbrev pub invariant-loop-accepted : goal.invariant-loop-accepted
invariant-loop-accepted l = l.text ≡ l.fn.text ++ flat_map accept_line (take l.accepted-index l.lines)
