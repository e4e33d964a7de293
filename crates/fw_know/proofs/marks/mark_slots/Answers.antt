-- A slot more.
use Rattle.fw_know.proofs.Marking.{marked_both, one_slot_more}
use Rattle.fw_know.proofs.marks.mark_slots.Goals as goal

pub loop-slot-preserved : goal.loop-slot-preserved
loop-slot-preserved c = record {
  marks = c.mark_slot.ensures.marks;
  marked = marked_both c.args.params.now _ _ _ _ _ _ c.loop-slot.invariant.marked c.mark_slot.ensures.marked (λ place fits. one_slot_more c.args.slots.now c.loop-slot.slot-index c.args.point _ place c.loop-slot-test.true);
}
