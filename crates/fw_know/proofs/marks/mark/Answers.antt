-- The mark of a place is at its index, and of no other place.
use Rattle.std.proofs.Common.{◌∙◌}
use Rattle.fw_base.specs.Places.{place_index}
use Rattle.fw_know.proofs.Marking.{inside, placed}
use Rattle.fw_know.proofs.marks.mark.Goals as goal

pub set_mark-requires : goal.set_mark-requires
set_mark-requires c = inside c.args.params.now c.args.place.now c.args.marks.now.items c.place_index.result c.requires.marks c.requires.fits c.place_index.ensures.value

pub returns-clause-marked : goal.returns-clause-marked
returns-clause-marked c = λ other fits.
    c.set_mark.ensures.marked (place_index c.args.params.now other)
    ∙ placed c.args.params.now c.args.place.now other c.place_index.result _ c.requires.fits fits c.place_index.ensures.value
