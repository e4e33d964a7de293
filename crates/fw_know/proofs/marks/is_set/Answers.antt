-- The mark at the place's index.
use Rattle.std.proofs.Common.{false, get_or, ap, ◌∙◌}
use Rattle.fw_know.proofs.Marking.{inside}
use Rattle.fw_know.proofs.marks.is_set.Goals as goal

pub mark_at-requires : goal.mark_at-requires
mark_at-requires c = inside c.args.params.now c.args.place.now c.args.marks.now.items c.place_index.result c.requires.marks c.requires.fits c.place_index.ensures.value

pub returns : goal.returns
returns c = c.mark_at.ensures ∙ ap (λ k. get_or c.args.marks.now.items k false) c.place_index.ensures.value
