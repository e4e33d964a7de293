-- The slots so far are marked.
use Rattle.std.proofs.Common.{take}
use Rattle.fw_know.specs.Marks.{AreMarks, Marks, is_of_any}
use Rattle.fw_know.proofs.marks.mark_slots.Given as goal

abbrev pub invariant-loop-slot : goal.invariant-loop-slot
invariant-loop-slot l = record {
  marks : AreMarks l.params l.marks.items;
  marked : Marks l.params (is_of_any (take l.slot-index l.slots) l.point) l.fn.marks.items l.marks.items;
}
