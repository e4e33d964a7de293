-- The first of the views that are left is the first of all.
use Rattle.std.proofs.Common.{◌≡◌, ◌-◌}
use Rattle.fw_rules.specs.Choices.{first_some}
use Rattle.fw_rules.specs.Views as views
use Rattle.fw_kept.specs.Kept.{node_of}
use Rattle.fw_turn.proofs.choosing.adopts.Given as goal

abbrev pub invariant-loop-k : goal.invariant-loop-k
invariant-loop-k l =
    first_some (views.adopts_at (node_of l.keeps)) (views.views_down (l.views - l.k)) ≡ first_some (views.adopts_at (node_of l.keeps)) (views.views_down l.views)
