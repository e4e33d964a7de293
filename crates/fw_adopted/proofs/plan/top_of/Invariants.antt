-- With those that are left the greatest is that of all.
use Rattle.std.proofs.Common.{◌≡◌, max, map, drop}
use Rattle.fw_rules.specs.Agree.{top}
use Rattle.fw_owned.specs.Pieces.{change_of}
use Rattle.fw_adopted.proofs.plan.top_of.Given as goal

abbrev pub invariant-loop-change : goal.invariant-loop-change
invariant-loop-change l =
    max l.most (top (map change_of (drop l.change-index l.changes))) ≡ top (map change_of l.changes)
