-- A pair more.
use Rattle.fw_frame.specs.declared.shown.Shown.{Shown}
use Rattle.fw_know.specs.Known.{place_eq}
use Rattle.fw_know.proofs.Marking.{marked_both, one_item_more}
use Rattle.fw_know.proofs.marks.mark_shown.Goals as goal

pub loop-pair-preserved : goal.loop-pair-preserved
loop-pair-preserved c = record {
  marks = c.mark.ensures.marks;
  marked = marked_both c.args.params.now _ _ _ _ _ _ c.loop-pair.invariant.marked c.mark.ensures.marked (λ place fits. one_item_more (λ (pair : Shown). place_eq pair.place place) c.args.pairs.now c.loop-pair.pair-index _ c.loop-pair-test.true);
}
