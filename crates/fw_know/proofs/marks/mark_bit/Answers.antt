-- One side or the other.
use Rattle.fw_know.proofs.Marking.{marked_both, both_sides}
use Rattle.fw_know.proofs.marks.mark_bit.Goals as goal

pub returns-clause-marked : goal.returns-clause-marked
returns-clause-marked c =
    marked_both c.args.params.now _ _ _ _ _ _ c.mark.ensures.marked c.mark-2.ensures.marked (both_sides c.args.params.now c.args.slot c.args.point c.args.bit)
