-- One proof more.
use Rattle.std.proofs.Common.{reverse}
use Rattle.fw_move.proofs.Best.{best_next}
use Rattle.fw_move.proofs.making.best_proof.Goals as goal

pub loop-proof-preserved : goal.loop-proof-preserved
loop-proof-preserved c =
    best_next c.args.number c.oldest_first-proof-items.result.now (reverse c.args.proofs.now) c.loop-proof.proof-index c.proof-item.result _ _
    c.oldest_first-proof-items.ensures c.loop-proof-test.true c.proof-item.is c.loop-proof.invariant c.better-best.ensures
