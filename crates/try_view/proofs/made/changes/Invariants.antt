use Rattle.std.proofs.Common.{◌≡◌, length, All}
use Rattle.fw_frame.specs.Writing.{IsWritableChange}
use Rattle.try_view.proofs.made.changes.Given as goal

abbrev pub invariant-loop-part : goal.invariant-loop-part
invariant-loop-part l = record {
  len : length l.changes ≡ l.part-index;
  writable : All IsWritableChange l.changes;
}
