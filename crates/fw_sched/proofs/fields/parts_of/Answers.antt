-- What is left to show of `parts_of`.
use Rattle.std.proofs.Common.{◌≢◌, None, codes, sym}
use Rattle.toml.specs.View.{table_view}
use Rattle.fw_record.specs.declared.limits.TheConstants.{MOST_RECORDS}
use Rattle.fw_sched.specs.declared.limits.TheConstants.{MOST_STEPS}
use Rattle.fw_sched.specs.Members.{texts_at, fields, first_wrong}
use Rattle.fw_sched.proofs.Heads.{all_right, sized, if_none, no_texts}
use Rattle.fw_sched.proofs.fields.parts_of.Goals as goal

pub returns-in_err-params-clause-none : goal.returns-in_err-params-clause-none
returns-in_err-params-clause-none c =
    let wrong : first_wrong (fields (table_view c.args.table.now)) ≢ None = λ e. let found = sized (table_view c.args.table.now) (all_right (table_view c.args.table.now) e) in c.in_err-params.ensures found.0 found.1 found.2 in
    if_none (first_wrong (fields (table_view c.args.table.now)) ≢ None) c.from_residual.result wrong

pub returns-in_err-records-clause-none : goal.returns-in_err-records-clause-none
returns-in_err-records-clause-none c =
    let wrong : first_wrong (fields (table_view c.args.table.now)) ≢ None = λ e. no_texts (texts_at (table_view c.args.table.now) (codes "records")) MOST_RECORDS (sym c.in_err-records.ensures) (all_right (table_view c.args.table.now) e).records in
    if_none (first_wrong (fields (table_view c.args.table.now)) ≢ None) c.from_residual-in_err-records.result wrong

pub returns-in_err-steps-clause-none : goal.returns-in_err-steps-clause-none
returns-in_err-steps-clause-none c =
    let wrong : first_wrong (fields (table_view c.args.table.now)) ≢ None = λ e. no_texts (texts_at (table_view c.args.table.now) (codes "steps")) MOST_STEPS (sym c.in_err-steps.ensures) (all_right (table_view c.args.table.now) e).steps in
    if_none (first_wrong (fields (table_view c.args.table.now)) ≢ None) c.from_residual-in_err-steps.result wrong
