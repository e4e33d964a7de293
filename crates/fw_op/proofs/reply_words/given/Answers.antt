-- Where a value couldn't be copied, one stands there.
use Rattle.std.proofs.Common.{◌∷◌, ap, refl, codes}
use Rattle.fw_op.specs.declared.reply.Reply.TheVariants as replies
use Rattle.fw_op.specs.Replies.{AreOfTellingReply}
use Rattle.fw_op.proofs.Each.{in_any_case}
use Rattle.fw_op.proofs.reply_words.given.Goals as goal

pub returns-in_err-copy_of-clause-memory : goal.returns-in_err-copy_of-clause-memory
returns-in_err-copy_of-clause-memory c =
    let found = c.in-Some.ensures.found in
    in_any_case (AreOfTellingReply c.args.clients (codes "value" ∷ c.args.words.now)) c.from_residual.result (replies.Value c.in-Some.value.now, ap (λ ws. codes "value" ∷ ws) found.0, found.1, refl)
