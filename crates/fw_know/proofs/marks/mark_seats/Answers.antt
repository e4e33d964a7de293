-- A seat more.
use Rattle.fw_know.specs.Known.{dealt_to}
use Rattle.fw_know.proofs.Marking.{marked_both, one_item_more}
use Rattle.fw_know.proofs.marks.mark_seats.Goals as goal

pub loop-seat-preserved : goal.loop-seat-preserved
loop-seat-preserved c = record {
  marks = c.in_ok-mark_seat.ensures.marks;
  marked = marked_both c.args.params.now _ _ _ _ _ _ c.loop-seat.invariant.marked c.in_ok-mark_seat.ensures.marked (λ place fits. one_item_more (dealt_to place) c.args.seats.now c.loop-seat.seat-index _ c.loop-seat-test.true);
}
