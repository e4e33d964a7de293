-- The hand has the keys.
use Rattle.std.proofs.Common.{sym, arith}
use Rattle.fw_means.proofs.Hands.{has-numbered-key}
use Rattle.fw_exec.proofs.own.key_at.Goals as goal

pub unreachable-requires : goal.unreachable-requires
unreachable-requires c =
    let client = c.requires.client in
    has-numbered-key c.args.hand.now.keys 0 c.args.count c.args.client c.requires.hand (omega arith) (omega (arith, client)) (sym c.in-None.ensures)
