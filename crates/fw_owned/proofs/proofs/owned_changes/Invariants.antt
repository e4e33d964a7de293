use Rattle.std.proofs.Common.{◌≡◌, map, take, length}
use Rattle.fw_frame.specs.Plain.{plain_change}
use Rattle.fw_frame.specs.View.{viewed_change}
use Rattle.fw_owned.specs.Pieces.{change_of}
use Rattle.fw_owned.proofs.proofs.owned_changes.Given as goal

abbrev pub invariant-loop-change : goal.invariant-loop-change
invariant-loop-change l = record {
  same : map change_of l.copy ≡ map viewed_change (map plain_change (take l.change-index l.changes));
  len : length l.copy ≡ l.change-index;
}
