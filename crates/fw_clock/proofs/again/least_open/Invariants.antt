-- What the numbers that are left give is what all give.
use Rattle.std.proofs.Common.{◌≡◌, ◌+◌, ◌-◌}
use Rattle.fw_list.specs.Lists.{numbers_from}
use Rattle.fw_rules.specs.Views as views
use Rattle.fw_rules.specs.Choices.{first_some}
use Rattle.fw_kept.specs.Kept.{node_of}
use Rattle.fw_clock.proofs.again.least_open.Given as goal

abbrev pub invariant-loop-k : goal.invariant-loop-k
invariant-loop-k l =
    first_some (views.uncommitted (node_of l.keeps)) (numbers_from (l.k + 1) (l.k-end - l.k))
    ≡ first_some (views.uncommitted (node_of l.keeps)) (numbers_from 1 l.k-end)
