-- What is left to show of `told_of`.
use Rattle.std.proofs.Common.{codes, ◌∷◌}
use Rattle.fw_op.proofs.Each.{in_any_case}
use Rattle.fw_op.specs.Words.{words_of}
use Rattle.fw_step.specs.declared.step.Step.{Step}
use Rattle.fw_step.specs.declared.step.Step.TheVariants as steps
use Rattle.fw_step.specs.Parts.{IsStepOf}
use Rattle.fw_step.proofs.Made.{told_made, no_addressee, no_lie}
use Rattle.fw_step.proofs.read.told_of.Goals as goal

pub returns-in_default-addressee-clause-none : goal.returns-in_default-addressee-clause-none
returns-in_default-addressee-clause-none c =
    let found = c.in-Some.ensures.found in
    no_addressee c.args.params.now c.args.faulty.now (words_of c.args.text.now) (words_of c.in-Some.rest.now) c.in-Some.from c.requires found.0 found.1 c.in_default-addressee.ensures.none

pub returns-in_err-lie-clause-memory : goal.returns-in_err-lie-clause-memory
returns-in_err-lie-clause-memory c =
    let p = c.args.params.now in
    let faulty = c.args.faulty.now in
    let words = words_of c.args.text.now in
    let from = c.in-Some.from in
    let to = c.in-Some-addressee.to in
    let liar = c.in-Some.ensures.found in
    let addressee = c.in-Some-addressee.ensures.found in
    let wanted = c.in_err-lie.ensures.memory in
    in_any_case ((s : Step) × IsStepOf p faulty (codes "lie" ∷ words) s) c.from_residual.result
    (steps.Lie from to wanted.0, told_made p faulty words (words_of c.in-Some.rest.now) (words_of c.in-Some-addressee.rest.now) from to wanted.0 liar.0 liar.1 liar.2 addressee.0 addressee.1 addressee.2 wanted.1)

pub returns-in-None-clause-none : goal.returns-in-None-clause-none
returns-in-None-clause-none c =
    let liar = c.in-Some.ensures.found in
    let addressee = c.in-Some-addressee.ensures.found in
    no_lie c.args.params.now c.args.faulty.now (words_of c.args.text.now) (words_of c.in-Some.rest.now) (words_of c.in-Some-addressee.rest.now) c.in-Some.from c.in-Some-addressee.to c.requires liar.0 liar.1 addressee.0
    (rw c.in-None.is at c.in_ok-lie.ensures.none)
