-- The bits so far are marked.
use Rattle.fw_know.specs.Marks.{AreMarks, Marks, is_before}
use Rattle.fw_know.proofs.marks.mark_slot.Given as goal

abbrev pub invariant-loop-bit : goal.invariant-loop-bit
invariant-loop-bit l = record {
  marks : AreMarks l.params l.marks.items;
  marked : Marks l.params (is_before l.slot l.point l.bit) l.fn.marks.items l.marks.items;
}
