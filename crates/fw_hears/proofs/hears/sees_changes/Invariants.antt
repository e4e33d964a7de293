-- The entries of the changes before the place are seen.
use Rattle.std.proofs.Common.{◌≡◌, ◌++◌, map, take}
use Rattle.fw_frame.specs.Plain.{plain_change}
use Rattle.fw_frame.specs.View.{viewed_change}
use Rattle.fw_rules.specs.Views.{entries_of}
use Rattle.fw_owned.specs.Pieces.{entry_of}
use Rattle.fw_hears.proofs.hears.sees_changes.Given as goal

abbrev pub invariant-loop-change : goal.invariant-loop-change
invariant-loop-change l = map entry_of l.seen ≡ map entry_of l.fn.seen ++ entries_of (map viewed_change (map plain_change (take l.change-index l.changes)))
