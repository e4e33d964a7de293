-- Where a reply couldn't be copied, one stands there.
use Rattle.std.proofs.Common.{List, ◌∷◌, []}
use Rattle.fw_op.proofs.Each.{in_any_case}
use Rattle.fw_op.specs.Words.{words_of}
use Rattle.fw_step.specs.declared.step.LieReply.{LieReply}
use Rattle.fw_step.specs.Parts.{IsAnswerOf}
use Rattle.fw_step.proofs.Made.{answer_made}
use Rattle.fw_step.proofs.parts.answer_of.Goals as goal

pub returns-in_err-reply-clause-memory : goal.returns-in_err-reply-clause-memory
returns-in_err-reply-clause-memory c =
    let p = c.args.params.now in
    let words = words_of c.args.text.now in
    let wanted = c.in_err-reply.ensures.memory in
    in_any_case ((more : List LieReply) × IsAnswerOf p words more) c.from_residual.result (wanted.0 ∷ [], answer_made p words wanted.0 wanted.1)

pub returns-in_err-push-in-Some-clause-memory : goal.returns-in_err-push-in-Some-clause-memory
returns-in_err-push-in-Some-clause-memory c =
    let p = c.args.params.now in
    let words = words_of c.args.text.now in
    let found = rw c.in-Some.is at c.in_ok-reply.ensures.found in
    in_any_case ((more : List LieReply) × IsAnswerOf p words more) c.from_residual-in_err-push-in-Some.result (c.in-Some.reply ∷ [], answer_made p words c.in-Some.reply found)
