-- The invariant of the loop of `add_all_agreed`.
use Rattle.std.proofs.Common.{◌≡◌, ◌++◌, take}
use Rattle.std.specs.List.{flat_map}
use Rattle.fw_report.specs.Report.{agreed_line}
use Rattle.fw_report.proofs.lines.add_all_agreed.Given as goal

abbrev pub invariant-loop-agreed : goal.invariant-loop-agreed
invariant-loop-agreed l = l.text ≡ l.fn.text ++ flat_map agreed_line (take l.agreed-index l.lines)
