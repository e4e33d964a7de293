-- What the check leaves to show of `read_bytes`.
use Rattle.std.proofs.Common.{sym, ◌∙◌}
use Rattle.fw_op.specs.Ops.{IsOpBytes}
use Rattle.fw_op.proofs.Each.{each_of, value_of}
use Rattle.fw_op.specs.Reading.{op_in}
use Rattle.fw_op.proofs.Reading.{op_in_where}
use Rattle.fw_op.proofs.OneSpelling.{same_op_bytes}
use Rattle.fw_op.proofs.op.Op.read_bytes.Goals as goal

pub returns-clause-each : goal.returns-clause-each
returns-clause-each c = each_of (IsOpBytes c.args.bytes.now) c.op_in.result (λ a b is_a is_b. same_op_bytes a b is_a.1 is_b.1 (sym is_a.0 ∙ is_b.0)) c.op_in.ensures.found c.op_in.ensures.none

pub returns-clause-value : goal.returns-clause-value
returns-clause-value c = value_of (IsOpBytes c.args.bytes.now) (op_in c.args.bytes.now) c.op_in.result (op_in_where c.args.bytes.now) c.op_in.ensures.found c.op_in.ensures.none
