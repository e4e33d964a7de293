-- Where what is replied couldn't be copied, a reply to a request stands there.
use Rattle.fw_op.proofs.Each.{in_any_case}
use Rattle.fw_op.specs.Words.{words_of}
use Rattle.fw_step.specs.declared.step.LieReply.{LieReply}
use Rattle.fw_step.specs.Parts.{IsAnsweredOf}
use Rattle.fw_step.proofs.Made.{answered_made}
use Rattle.fw_step.proofs.parts.answered_of.Goals as goal

pub returns-in_err-reply-clause-memory : goal.returns-in_err-reply-clause-memory
returns-in_err-reply-clause-memory c =
    let p = c.args.params.now in
    let words = words_of c.args.text.now in
    let found = c.in-Some.ensures.found in
    let wanted = c.in_err-reply.ensures.memory in
    in_any_case ((a : LieReply) × IsAnsweredOf p words a) c.from_residual.result
    (record { client = c.in-Some.client; stamp = c.in-Some.stamp; reply = wanted.0 }, answered_made p words (words_of c.in-Some.rest.now) c.in-Some.client c.in-Some.stamp wanted.0 found.0 found.1 found.2 wanted.1)
