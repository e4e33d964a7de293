-- What is left to show of `head_of`.
use Rattle.std.proofs.Common.{sym}
use Rattle.toml.specs.View.{table_view}
use Rattle.fw_sched.specs.Stages.{said}
use Rattle.fw_sched.proofs.Heads.{head_from}
use Rattle.fw_sched.proofs.fields.head_of.Goals as goal

pub returns-clause-ok : goal.returns-clause-ok
returns-clause-ok c = head_from (table_view c.args.table.now) (said c.in-Some-parts_of.head) (sym c.in_default.ensures) c.in-Some-parts_of.ensures.found
