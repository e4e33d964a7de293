-- The first of the views that are left is the first of all.
use Rattle.std.proofs.Common.{◌≡◌, ◌-◌}
use Rattle.std.specs.List.{find}
use Rattle.fw_view.specs.Counted.{calls_for, views_down}
use Rattle.fw_view.proofs.changes.Changes.join.Given as goal

abbrev pub invariant-loop-k : goal.invariant-loop-k
invariant-loop-k l = find (calls_for l.self l.own l.agree) (views_down (l.views - l.k)) ≡ find (calls_for l.self l.own l.agree) (views_down l.views)
