-- The hand has the values of the slot.
use Rattle.fw_means.proofs.Hands.{has-slot}
use Rattle.fw_client.proofs.asking.signature.Goals as goal

pub unreachable-requires : goal.unreachable-requires
unreachable-requires c =
    has-slot c.args.params.now c.args.client c.args.stamp c.args.hand.now.held c.requires.hand.client c.requires.first c.requires.last c.requires.hand.slots c.in-None.ensures.none
