-- Where a value couldn't be copied, one stands there.
use Rattle.std.proofs.Common.{◌∷◌, ap, refl}
use Rattle.fw_op.specs.declared.reply.Reply.TheVariants as replies
use Rattle.fw_op.specs.Replies.{AreOfTelling}
use Rattle.fw_op.proofs.Each.{in_any_case}
use Rattle.fw_op.proofs.reply_bytes.value_in.Goals as goal

pub returns-in_err-copy_of-clause-memory : goal.returns-in_err-copy_of-clause-memory
returns-in_err-copy_of-clause-memory c =
    let found = c.in-Some.ensures.found in
    in_any_case (AreOfTelling (2 ∷ c.args.reader.now)) c.from_residual.result (replies.Value c.in-Some.value.now, (ap (λ bs. 2 ∷ bs) found.0, found.1, refl), refl)
