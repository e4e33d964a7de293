-- What a seat is dealt is what its slots have at its point.
use Rattle.fw_deal.proofs.Seats.{ready}
use Rattle.fw_know.proofs.Marking.{marked_same, dealt_slots}
use Rattle.fw_know.proofs.marks.mark_seat.Goals as goal

pub mark_slots-requires-clause-slots : goal.mark_slots-requires-clause-slots
mark_slots-requires-clause-slots c =
    ready c.args.params.now c.args.seat c.items.result.now c.in_ok-slots.slots c.point_of.result c.items.ensures c.in_ok-slots.ensures.slots c.point_of.ensures c.requires.fits

pub returns-clause-marked : goal.returns-clause-marked
returns-clause-marked c =
    marked_same c.args.params.now _ _ _ _ c.mark_slots.ensures.marked
    (λ place fits. dealt_slots c.args.params.now c.args.seat c.in_ok-slots.slots c.items.result.now c.point_of.result place fits c.items.ensures c.point_of.ensures c.in_ok-slots.ensures.own)
