-- What the pairs so far show is marked.
use Rattle.std.proofs.Common.{take}
use Rattle.fw_know.specs.Known.{is_shown_in}
use Rattle.fw_know.specs.Marks.{AreMarks, Marks}
use Rattle.fw_know.proofs.marks.mark_shown.Given as goal

abbrev pub invariant-loop-pair : goal.invariant-loop-pair
invariant-loop-pair l = record {
  marks : AreMarks l.params l.marks.items;
  marked : Marks l.params (is_shown_in (take l.pair-index l.pairs)) l.fn.marks.items l.marks.items;
}
