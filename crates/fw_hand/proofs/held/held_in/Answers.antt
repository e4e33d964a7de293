-- One slot's values more.
use Rattle.std.proofs.Common.{arith}
use Rattle.fw_base.specs.declared.slot.Slot.TheVariants.{Prepare}
use Rattle.fw_hand.proofs.Along.{one_more_at, no_item_at}
use Rattle.fw_hand.proofs.OwnSlots.{own_at, own_point}
use Rattle.fw_hand.proofs.held.held_in.Goals as goal

pub one_in-requires-clause-fits : goal.one_in-requires-clause-fits
one_in-requires-clause-fits c =
    (own_at c.args.directory.now.params c.args.seat c.params.result.now c.in_ok-slots.slots c.items-slot-items.result.now c.loop-slot.slot-index (Prepare 0 0 0) c.params.ensures.same c.items-slot-items.ensures (omega arith) c.in_ok-slots.ensures.own).0

pub one_in-requires-clause-point : goal.one_in-requires-clause-point
one_in-requires-clause-point c =
    let own = own_at c.args.directory.now.params c.args.seat c.params.result.now c.in_ok-slots.slots c.items-slot-items.result.now c.loop-slot.slot-index (Prepare 0 0 0) c.params.ensures.same c.items-slot-items.ensures (omega arith) c.in_ok-slots.ensures.own in
    rw c.point_of-point.ensures (own_point c.args.directory.now.params c.args.seat _ c.requires own.1)

pub returns-in_default : goal.returns-in_default
returns-in_default c =
    no_item_at c.items-slot-items.result.now c.loop-slot.slot-index (Prepare 0 0 0) (omega arith) c.loop-slot.invariant (rw (c.point_of-point.ensures, c.in_default.is) at c.in_ok-one.ensures)

pub loop-slot-preserved : goal.loop-slot-preserved
loop-slot-preserved c =
    rw c.in_ok-push.ensures.ok
    (one_more_at c.items-slot-items.result.now c.loop-slot.slot-index (Prepare 0 0 0) (omega arith) c.loop-slot.invariant (rw (c.point_of-point.ensures, c.in-Some.is) at c.in_ok-one.ensures))
