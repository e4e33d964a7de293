use Rattle.std.proofs.Common.{◌≡◌, take, length}
use Rattle.fw_owned.proofs.proofs.copy_changes.Given as goal

abbrev pub invariant-loop-change : goal.invariant-loop-change
invariant-loop-change l = record {
  same : l.copy ≡ take l.change-index l.changes;
  len : length l.copy ≡ l.change-index;
}
