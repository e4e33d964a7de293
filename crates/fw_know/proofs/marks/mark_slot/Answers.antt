-- A bit more.
use Rattle.std.proofs.Common.{arith}
use Rattle.fw_know.specs.Marks.{is_of, is_before}
use Rattle.fw_know.proofs.Marking.{marked_both, marked_none, marked_same, one_bit_more, no_bit, all_bits}
use Rattle.fw_know.proofs.marks.mark_slot.Goals as goal

pub loop-bit-init : goal.loop-bit-init
loop-bit-init c = record {
  marks = c.requires.marks;
  marked = marked_none c.args.params.now (is_before c.args.slot c.args.point 0) c.args.marks.now.items (no_bit c.args.slot c.args.point);
}

pub loop-bit-preserved : goal.loop-bit-preserved
loop-bit-preserved c = record {
  marks = c.mark_bit.ensures.marks;
  marked = marked_both c.args.params.now _ _ _ _ _ _ c.loop-bit.invariant.marked c.mark_bit.ensures.marked (λ place fits. one_bit_more c.args.slot c.args.point c.loop-bit.bit place);
}

pub returns-clause-marked : goal.returns-clause-marked
returns-clause-marked c =
    marked_same c.args.params.now (is_before c.args.slot c.args.point c.loop-bit.bit) (is_of c.args.slot c.args.point) _ _ c.loop-bit.invariant.marked
    (λ place fits. all_bits c.args.params.now c.args.slot c.args.point c.loop-bit.bit place (omega (arith, c.loop-bit-test.false)) fits)
