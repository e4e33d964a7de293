-- Where what is asked couldn't be copied, a request stands there.
use Rattle.fw_op.proofs.Each.{in_any_case}
use Rattle.fw_op.specs.Words.{words_of}
use Rattle.fw_step.specs.declared.step.LieRequest.{LieRequest}
use Rattle.fw_step.specs.Parts.{IsRequestOf}
use Rattle.fw_step.proofs.Made.{request_made}
use Rattle.fw_step.proofs.parts.request_of.Goals as goal

pub returns-in_err-op-clause-memory : goal.returns-in_err-op-clause-memory
returns-in_err-op-clause-memory c =
    let p = c.args.params.now in
    let words = words_of c.args.text.now in
    let found = c.in-Some.ensures.found in
    let wanted = c.in_err-op.ensures.memory in
    in_any_case ((r : LieRequest) × IsRequestOf p words r) c.from_residual.result
    (record { client = c.in-Some.client; stamp = c.in-Some.stamp; op = wanted.0 }, request_made p words (words_of c.in-Some.rest.now) c.in-Some.client c.in-Some.stamp wanted.0 found.0 found.1 found.2 wanted.1)
