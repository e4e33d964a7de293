-- One executor more.
use Rattle.std.proofs.Common.{nat_eq}
use Rattle.std.specs.Prelude.{not}
use Rattle.fw_exec.proofs.Others.{others_more}
use Rattle.fw_exec.proofs.own.other_executors.Goals as goal

pub loop-k-preserved : goal.loop-k-preserved
loop-k-preserved c = others_more (λ i. not (nat_eq i c.args.exec)) c.loop-k.others c.add_other.new.others _ c.loop-k.k _ c.loop-k-test.true c.in_ok-add_other.ensures c.loop-k.invariant
