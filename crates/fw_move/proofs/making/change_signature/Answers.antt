-- The hand has the values of the slot.
use Rattle.fw_move.proofs.Signed.{has-change}
use Rattle.fw_move.proofs.making.change_signature.Goals as goal

pub unreachable-requires : goal.unreachable-requires
unreachable-requires c =
    has-change c.args.directory.now.params c.args.own c.args.view c.args.hand.now.held c.requires.hand.agree c.requires.view c.requires.hand.slots c.in-None.ensures.none
