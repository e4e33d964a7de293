-- What the check leaves to show of `reply_to`.
use Rattle.fw_ref.proofs.Fitting.{tellable-new, tellable-set}
use Rattle.fw_ref.proofs.replica.Replica.reply_to.Goals as goal

pub invariant_of-self-2 : goal.invariant_of-self-2
invariant_of-self-2 g c = record {
  stored = c.outcome.ensures.stored;
  tellable =
      tellable-set c.self.inside.last c.args.client (record { stamp = c.args.stamp; reply = c.in_ok-kept.kept })
      (tellable-new c.args.stamp c.in_ok-reply.reply c.in_ok-kept.kept c.in_ok-kept.ensures.ok c.in_ok-reply.ensures.fits c.in_ok-reply.ensures.said) c.self.invariant.tellable;
}
