use Rattle.std.proofs.Common.{arith}
use Rattle.fw_digest.proofs.Block.{masked-by_index}
use Rattle.fw_digest.proofs.masked_block.Goals as goal

pub returns : goal.returns
returns c = masked-by_index _ _ _ c.requires c.loop-k.invariant.whole (λ i below. c.loop-k.invariant.written i (omega arith))
