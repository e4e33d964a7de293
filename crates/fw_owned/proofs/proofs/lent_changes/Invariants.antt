use Rattle.std.proofs.Common.{◌≡◌, map, take, length, All}
use Rattle.fw_frame.specs.Plain.{plain_change}
use Rattle.fw_frame.specs.View.{viewed_change}
use Rattle.fw_frame.specs.Writing.{IsWritableChange}
use Rattle.fw_owned.specs.Pieces.{change_of}
use Rattle.fw_owned.proofs.proofs.lent_changes.Given as goal

abbrev pub invariant-loop-change : goal.invariant-loop-change
invariant-loop-change l = record {
  same : map viewed_change (map plain_change l.lent) ≡ map change_of (take l.change-index l.changes);
  len : length l.lent ≡ l.change-index;
  writable : All IsWritableChange l.lent;
}
