-- With the changes of the nodes that are left they are all, as far as a quorum goes.
use Rattle.std.proofs.Common.{◌≡◌, ◌≤◌, ◌-◌, ◌++◌, length, map, filter_map}
use Rattle.fw_list.specs.Lists.{numbers_from}
use Rattle.fw_hand.specs.Hands.{PlainHand}
use Rattle.fw_rules.specs.Views as views
use Rattle.fw_owned.specs.Pieces.{change_of}
use Rattle.fw_kept.specs.Kept.{self_of, node_of}
use Rattle.fw_turn.proofs.choosing.lowest_changes.Given as goal

abbrev pub invariant-loop-agree : goal.invariant-loop-agree
invariant-loop-agree l = record {
  few : length l.changes ≤ l.quorum;
  all : (hand : PlainHand) →
      let found = views.change_of (self_of l.directory hand l.own) (node_of l.keeps) l.keeps.view in
      map change_of l.changes ++ filter_map found (numbers_from l.agree (l.agree-end - l.agree)) ≡ filter_map found (numbers_from 0 l.agree-end);
}
