-- Where names couldn't be copied, they stand there.
use Rattle.std.proofs.Common.{◌∷◌, ap, refl, codes}
use Rattle.fw_op.specs.declared.reply.Reply.TheVariants as replies
use Rattle.fw_op.specs.Replies.{AreOfTellingReply}
use Rattle.fw_op.proofs.Each.{in_any_case}
use Rattle.fw_op.proofs.reply_words.listed.Goals as goal

pub returns-in_err-names-clause-memory : goal.returns-in_err-names-clause-memory
returns-in_err-names-clause-memory c =
    let stand = c.in_err-names.ensures.memory in
    in_any_case (AreOfTellingReply c.args.clients (codes "keys" ∷ c.args.words.now)) c.from_residual.result (replies.Keys stand.0, ap (λ ws. codes "keys" ∷ ws) stand.1, stand.2, refl)
