-- The invariant of the loop of `add_all_cross`.
use Rattle.std.proofs.Common.{◌≡◌, ◌++◌, take}
use Rattle.std.specs.List.{flat_map}
use Rattle.fw_report.specs.Report.{cross_line}
use Rattle.fw_report.proofs.lines.add_all_cross.Given as goal

abbrev pub invariant-loop-cross : goal.invariant-loop-cross
invariant-loop-cross l = l.text ≡ l.fn.text ++ flat_map cross_line (take l.cross-index l.lines)
