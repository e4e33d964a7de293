-- The choices so far.
use Rattle.std.proofs.Common.{◌≡◌, map}
use Rattle.fw_list.specs.Lists.{numbers_from}
use Rattle.fw_rules.specs.Agree.{choice}
use Rattle.fw_owned.specs.Pieces.{entry_of, change_of}
use Rattle.fw_adopted.proofs.plan.plan_of.Given as goal

abbrev pub invariant-loop-k : goal.invariant-loop-k
invariant-loop-k l = map entry_of l.entries ≡ map (choice (map change_of l.changes)) (numbers_from 1 l.k)
