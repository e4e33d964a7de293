-- What the check leaves to show of `answer`.
use Rattle.fw_ref.proofs.Fitting.{opened-fits}
use Rattle.fw_frame.specs.Plain.{plain_request}
use Rattle.fw_ref.proofs.replica.Replica.answer.Goals as goal

pub reply_to-requires-clause-op : goal.reply_to-requires-clause-op
reply_to-requires-clause-op g c = opened-fits _ (plain_request c.args.request.now) c.in_ok-op.op c.in_ok-op.ensures
