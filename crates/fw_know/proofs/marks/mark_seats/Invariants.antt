-- What the seats so far are dealt is marked.
use Rattle.std.proofs.Common.{take}
use Rattle.std.specs.List.{list_any}
use Rattle.fw_know.specs.Known.{dealt_to}
use Rattle.fw_know.specs.Marks.{AreMarks, Marks}
use Rattle.fw_know.proofs.marks.mark_seats.Given as goal

abbrev pub invariant-loop-seat : goal.invariant-loop-seat
invariant-loop-seat l = record {
  marks : AreMarks l.params l.marks.items;
  marked : Marks l.params (λ place. list_any (dealt_to place) (take l.seat-index l.seats)) l.fn.marks.items l.marks.items;
}
