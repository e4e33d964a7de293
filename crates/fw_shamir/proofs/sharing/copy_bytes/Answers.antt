use Rattle.std.proofs.Common.{arith, below_more}
use Rattle.std.proofs.lemmas.Grind.{common_steps}
use Rattle.fw_shamir.proofs.Points.{have-bytes}
use Rattle.fw_shamir.proofs.sharing.copy_bytes.Goals as goal

pub loop-k-preserved : goal.loop-k-preserved
loop-k-preserved c = record {
  copied = grind (arith, common_steps);
  bytes = below_more _ _ c.loop-k.invariant.bytes (c.copied.ensures.place, c.copied.ensures.byte);
}

pub returns-clause-bytes : goal.returns-clause-bytes
returns-clause-bytes c = have-bytes c.args.points.now (record { at = 0; value = 0 }) (λ j below. c.loop-k.invariant.bytes j (omega arith))
