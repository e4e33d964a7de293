-- Where an operation couldn't be copied, one stands there.
use Rattle.fw_op.proofs.Each.{in_any_case}
use Rattle.fw_op.specs.Words.{words_of}
use Rattle.fw_step.specs.declared.step.LieOp.{LieOp}
use Rattle.fw_step.specs.declared.step.LieOp.TheVariants as lie_ops
use Rattle.fw_step.specs.Parts.{IsLieOpOf}
use Rattle.fw_step.proofs.parts.lie_op_of.Goals as goal

pub returns-in_err-op-clause-memory : goal.returns-in_err-op-clause-memory
returns-in_err-op-clause-memory c =
    let wanted = rw c.of.ensures at c.in_err-op.ensures.memory in
    in_any_case ((op : LieOp) × IsLieOpOf c.args.clients (words_of c.args.text.now) op) c.from_residual.result (lie_ops.Op wanted.0, (wanted.1, wanted.2))
