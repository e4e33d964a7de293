-- What the views that are left give is what all give.
use Rattle.std.proofs.Common.{◌≡◌, ◌-◌, ℕ}
use Rattle.fw_list.specs.Lists.{numbers_from}
use Rattle.fw_hand.specs.Hands.{PlainHand}
use Rattle.fw_rules.specs.Agree as agree
use Rattle.fw_rules.specs.Choices.{first_some}
use Rattle.fw_kept.specs.Kept.{self_of, node_of}
use Rattle.fw_choose.proofs.passes.commits.Given as goal

abbrev pub invariant-loop-view : goal.invariant-loop-view
invariant-loop-view l =
    (hand : PlainHand) (own : ℕ) →
    first_some (agree.commits_in (self_of l.directory hand own) (node_of l.keeps) l.number) (numbers_from l.view (l.view-end - l.view))
    ≡ first_some (agree.commits_in (self_of l.directory hand own) (node_of l.keeps) l.number) (numbers_from 0 l.view-end)
