-- Where an operation couldn't be copied, one stands there.
use Rattle.std.proofs.Common.{codes, ◌∷◌}
use Rattle.fw_op.proofs.Each.{in_any_case}
use Rattle.fw_op.specs.Words.{words_of}
use Rattle.fw_step.specs.declared.step.Step.{Step}
use Rattle.fw_step.specs.declared.step.Step.TheVariants as steps
use Rattle.fw_step.specs.Parts.{IsStepOf}
use Rattle.fw_step.proofs.Made.{submit_made}
use Rattle.fw_step.proofs.read.submit_of.Goals as goal

pub returns-in_err-op-clause-memory : goal.returns-in_err-op-clause-memory
returns-in_err-op-clause-memory c =
    let p = c.args.params.now in
    let faulty = c.args.faulty.now in
    let words = words_of c.args.text.now in
    let found = c.in-Some.ensures.found in
    let wanted = rw c.of.ensures at c.in_err-op.ensures.memory in
    in_any_case ((s : Step) × IsStepOf p faulty (codes "submit" ∷ words) s) c.from_residual.result
    (steps.Submit c.in-Some.client wanted.0, submit_made p faulty words (words_of c.in-Some.rest.now) c.in-Some.client wanted.0 found.0 found.1 wanted.1 wanted.2)
