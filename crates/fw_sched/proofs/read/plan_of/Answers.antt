-- What is left to show of `plan_of`.
use Rattle.std.proofs.Common.{arith}
use Rattle.std.proofs.lemmas.List.{length-map}
use Rattle.std.proofs.lemmas.Result.{IfOk-weaker}
use Rattle.toml.specs.View.{table_view}
use Rattle.fw_base.specs.Checks.{fault_of}
use Rattle.fw_sched.specs.Stages.{said, text_in, FromSizes, IsVerdict}
use Rattle.fw_sched.proofs.Heads.{few_steps}
use Rattle.fw_sched.proofs.Verdicts.{verdict_from_head}
use Rattle.fw_sched.proofs.read.plan_of.Goals as goal

pub from_head-requires-clause-steps : goal.from_head-requires-clause-steps
from_head-requires-clause-steps c =
    let few = few_steps (table_view c.args.table.now) (said c.in-Ok.head) c.in-Ok.ensures.ok in
    omega (arith, few, length-map c.in-Ok.head.steps.now text_in)

pub returns-in-Ok : goal.returns-in-Ok
returns-in-Ok c =
    let members = table_view c.args.table.now in
    IfOk-weaker c.from_head.result (λ v. FromSizes (said c.in-Ok.head) (fault_of c.in-Ok.head.params) v) (λ v. IsVerdict members v) (λ v from. verdict_from_head members (said c.in-Ok.head) v c.in-Ok.ensures.ok from) c.from_head.ensures
