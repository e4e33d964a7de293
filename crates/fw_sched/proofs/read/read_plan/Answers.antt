-- What is left to show of `read_plan`.
use Rattle.std.proofs.Common.{◌≡◌, Option, Some, None, Ok, Err, IfOk, IfErr, sym, ap, ◌∙◌}
use Rattle.std.proofs.lemmas.Result.{IfOk-weaker}
use Rattle.std.proofs.lemmas.Bool.{false≢true}
use Rattle.toml.specs.Data.{Members}
use Rattle.toml.specs.Parse.{parse_document}
use Rattle.toml.specs.View.{table_view}
use Rattle.fw_sched.specs.declared.plan.Plan.{Plan}
use Rattle.fw_sched.specs.declared.fault.InputFault.{InputFault}
use Rattle.fw_sched.specs.Document.{IsToml, IsDocument}
use Rattle.fw_sched.specs.Faults.{IsFault}
use Rattle.fw_sched.specs.Stages.{IsVerdict}
use Rattle.fw_sched.proofs.Verdicts.{plan_found, fault_found, only_plan, first_fault, not_toml_first}
use Rattle.fw_sched.proofs.read.read_plan.Goals as goal

some_or_none : (o : Option Members) (members : Members) → o ≡ Some members → o ≡ None → ⊥
some_or_none o table e f = cc

pub returns-in-Ok-table_from_str-clause-plan : goal.returns-in-Ok-table_from_str-clause-plan
returns-in-Ok-table_from_str-clause-plan c =
    let members = table_view c.in-Ok-table_from_str.table in
    let toml : IsToml c.args.bytes.now members = record { utf8 = c.in-Ok.ensures.cases.1; parsed = ap parse_document (sym c.in-Ok.ensures.cases.0) ∙ c.in-Ok-table_from_str.ensures.ok } in
    IfOk-weaker c.plan_of.result (λ v. IsVerdict members v) (λ v. IfOk v (λ p. IsDocument c.args.bytes.now p)) (λ v is. plan_found c.args.bytes.now members v toml is) c.plan_of.ensures

pub returns-in-Ok-table_from_str-clause-fault : goal.returns-in-Ok-table_from_str-clause-fault
returns-in-Ok-table_from_str-clause-fault c =
    let members = table_view c.in-Ok-table_from_str.table in
    let toml : IsToml c.args.bytes.now members = record { utf8 = c.in-Ok.ensures.cases.1; parsed = ap parse_document (sym c.in-Ok.ensures.cases.0) ∙ c.in-Ok-table_from_str.ensures.ok } in
    IfOk-weaker c.plan_of.result (λ v. IsVerdict members v) (λ v. IfErr v (λ f. IsFault c.args.bytes.now f)) (λ v is. fault_found c.args.bytes.now members v toml is) c.plan_of.ensures

pub returns-in-Ok-table_from_str-clause-only : goal.returns-in-Ok-table_from_str-clause-only
returns-in-Ok-table_from_str-clause-only c =
    let members = table_view c.in-Ok-table_from_str.table in
    let toml : IsToml c.args.bytes.now members = record { utf8 = c.in-Ok.ensures.cases.1; parsed = ap parse_document (sym c.in-Ok.ensures.cases.0) ∙ c.in-Ok-table_from_str.ensures.ok } in
    IfOk-weaker c.plan_of.result (λ v. IsVerdict members v) (λ v. (p : Plan) → IsDocument c.args.bytes.now p → v ≡ Ok p) (λ v is. only_plan c.args.bytes.now members v toml is) c.plan_of.ensures

pub returns-in-Ok-table_from_str-clause-first : goal.returns-in-Ok-table_from_str-clause-first
returns-in-Ok-table_from_str-clause-first c =
    let members = table_view c.in-Ok-table_from_str.table in
    let toml : IsToml c.args.bytes.now members = record { utf8 = c.in-Ok.ensures.cases.1; parsed = ap parse_document (sym c.in-Ok.ensures.cases.0) ∙ c.in-Ok-table_from_str.ensures.ok } in
    IfOk-weaker c.plan_of.result (λ v. IsVerdict members v) (λ v. (f : InputFault) → IsFault c.args.bytes.now f → v ≡ Err f) (λ v is. first_fault c.args.bytes.now members v toml is) c.plan_of.ensures

pub returns-else-is_memory-clause-first : goal.returns-else-is_memory-clause-first
returns-else-is_memory-clause-first c = λ f is.
    let text = c.in-Err.ensures.refused (λ memory. false≢true (c.if-is_memory.ensures.1 memory)) in
    let none : parse_document c.args.bytes.now ≡ None = ap parse_document (sym c.in-Ok.ensures.cases.0) ∙ text in
    let no_toml : (members : Members) → ¬ IsToml c.args.bytes.now members = λ members toml. some_or_none (parse_document c.args.bytes.now) members toml.parsed none in
    ap Err (not_toml_first c.args.bytes.now no_toml f is)
