-- As many as are correct so far.
use Rattle.std.proofs.Common.{◌≡◌, ◌≤◌}
use Rattle.fw_fair.specs.Correct.{kind_of, count_below}
use Rattle.fw_grid.proofs.places.correct_below.Given as goal

abbrev pub invariant-loop-k : goal.invariant-loop-k
invariant-loop-k l = record {
  count : l.below ≡ count_below l.faulty (kind_of l.params l.seat) l.k;
  few : l.below ≤ l.k;
}
