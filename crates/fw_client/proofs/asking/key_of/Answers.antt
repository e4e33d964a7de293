-- The hand has the keys.
use Rattle.std.proofs.Common.{sym}
use Rattle.fw_means.proofs.Hands.{has-key}
use Rattle.fw_client.proofs.asking.key_of.Goals as goal

pub unreachable-requires : goal.unreachable-requires
unreachable-requires c = has-key c.args.hand.now.keys c.args.client c.requires (sym c.in-None.ensures)
