-- What the numbers that are left give is what all give.
use Rattle.std.proofs.Common.{◌≡◌, ◌+◌, ◌-◌}
use Rattle.fw_list.specs.Lists.{numbers_from}
use Rattle.fw_rules.specs.Agree.{reply_at}
use Rattle.fw_rules.specs.Choices.{first_some}
use Rattle.fw_kept.specs.Kept.{node_of}
use Rattle.fw_choose.proofs.replies.reply_to.Given as goal

abbrev pub invariant-loop-k : goal.invariant-loop-k
invariant-loop-k l =
    first_some (reply_at (node_of l.keeps) l.client l.stamp) (numbers_from (l.k + 1) (l.k-end - l.k))
    ≡ first_some (reply_at (node_of l.keeps) l.client l.stamp) (numbers_from 1 l.k-end)
