-- What is left to show of `step_of`.
use Rattle.fw_step.proofs.Made.{found_by_text, each_by_text, memory_by_text}
use Rattle.fw_step.proofs.read.step_of.Goals as goal

pub returns-clause-found : goal.returns-clause-found
returns-clause-found c = found_by_text c.args.params.now c.args.faulty.now c.args.text.now c.step_in.result c.step_in.ensures.found

pub returns-clause-each : goal.returns-clause-each
returns-clause-each c = each_by_text c.args.params.now c.args.faulty.now c.args.text.now c.step_in.result c.requires c.step_in.ensures.found c.step_in.ensures.none

pub returns-clause-memory : goal.returns-clause-memory
returns-clause-memory c = memory_by_text c.args.params.now c.args.faulty.now c.args.text.now c.step_in.result c.step_in.ensures.memory
