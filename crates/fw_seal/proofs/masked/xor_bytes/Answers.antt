use Rattle.std.proofs.Common.{arith}
use Rattle.fw_seal.proofs.Bytes.{xor_bytes-by_index}
use Rattle.fw_seal.proofs.masked.xor_bytes.Goals as goal

pub returns : goal.returns
returns c = xor_bytes-by_index _ _ _ (omega arith) (omega arith) (λ i below. c.loop-k.invariant.written i (omega arith))
