-- The hand has the values of the slot.
use Rattle.std.proofs.Common.{refl}
use Rattle.std.proofs.lemmas.Bool.{lt-ltb}
use Rattle.fw_base.specs.Sizes.{executors}
use Rattle.fw_base.specs.declared.seat.Seat.TheVariants as seats
use Rattle.fw_base.specs.declared.slot.Slot.TheVariants as slots
use Rattle.fw_means.proofs.Hands.{has-own}
use Rattle.fw_exec.proofs.own.values_on.Goals as goal

pub unreachable-requires : goal.unreachable-requires
unreachable-requires c =
    let own = c.args.own.now in
    has-own own.params (seats.Exec own.exec) (slots.Reply c.args.number) own.hand.held (lt-ltb own.exec (executors own.params) c.requires.own.executors.exec) c.requires.number refl c.requires.own.executors.slots c.in-None.ensures.none
