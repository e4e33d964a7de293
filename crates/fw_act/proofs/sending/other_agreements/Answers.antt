-- One more of the others, or the one that is left out.
use Rattle.fw_act.proofs.Others.{others_more, others_same}
use Rattle.fw_act.proofs.sending.other_agreements.Goals as goal
use Rattle.fw_act.proofs.sending.other_agreements.Goals.{then-k-own+in_ok-push, else-k-own}

pub loop-k-preserved : goal.loop-k-preserved
loop-k-preserved c = elim c.if-k-own.branch [
  | then-k-own+in_ok-push w ↦
      rw (w.all-is, w.in_ok-push.ensures.ok) (others_more c.args.own c.loop-k.all _ c.loop-k.k c.agreements-k-end.result c.loop-k-test.true w.if-k-own.true c.loop-k.invariant)
  | else-k-own w ↦
      rw w.all-is (others_same c.args.own c.loop-k.all _ c.loop-k.k c.agreements-k-end.result c.loop-k-test.true w.if-k-own.false c.loop-k.invariant)
]
