-- What is left to show of `answer_of`.
use Rattle.fw_call.proofs.Plans.{is_plan}
use Rattle.fw_call.proofs.Answering.{is_output, only_of_plan, only_of_fault, no_source_fault}
use Rattle.fw_call.proofs.answer.answer_of.Goals as goal

pub output_of-requires : goal.output_of-requires
output_of-requires c = is_plan c.args.bytes.now c.in-Ok.plan (rw c.in-Ok.is at c.in_ok-plan.ensures.plan)

pub returns-in-Ok-clause-ok : goal.returns-in-Ok-clause-ok
returns-in-Ok-clause-ok c = is_output c.args.command c.args.bytes.now c.in-Ok.plan (rw c.in-Ok.is at c.in_ok-plan.ensures.plan) (rw c.in-Ok.is at c.in_ok-plan.ensures.only) c.output_of.result c.output_of.ensures.ok

pub returns-in-Ok-clause-only : goal.returns-in-Ok-clause-only
returns-in-Ok-clause-only c =
    only_of_plan c.args.command c.args.bytes.now c.in-Ok.plan c.requires (rw c.in-Ok.is at c.in_ok-plan.ensures.only) (rw c.in-Ok.is at c.in_ok-plan.ensures.first) c.output_of.result c.output_of.ensures.ok c.output_of.ensures.err

pub returns-in-Ok-clause-fault : goal.returns-in-Ok-clause-fault
returns-in-Ok-clause-fault c = no_source_fault c.args.command c.in-Ok.plan c.output_of.result c.output_of.ensures.err

pub returns-in-Err-clause-only : goal.returns-in-Err-clause-only
returns-in-Err-clause-only c = only_of_fault c.args.command c.args.bytes.now c.in-Err.fault c.requires (rw c.in-Err.is at c.in_ok-plan.ensures.only) (rw c.in-Err.is at c.in_ok-plan.ensures.first)
