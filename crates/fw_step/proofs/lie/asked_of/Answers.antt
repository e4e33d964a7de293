-- Where a request couldn't be copied, the lie stands there.
use Rattle.std.proofs.Common.{codes, ◌∷◌}
use Rattle.fw_base.specs.declared.seat.Seat.{Seat}
use Rattle.fw_op.proofs.Each.{in_any_case}
use Rattle.fw_op.specs.Words.{words_of}
use Rattle.fw_step.specs.declared.step.Lie.{Lie}
use Rattle.fw_step.specs.declared.step.Lie.TheVariants as lies
use Rattle.fw_step.specs.Parts.{IsLieOf}
use Rattle.fw_step.proofs.Made.{request_lie}
use Rattle.fw_step.proofs.lie.asked_of.Goals as goal

pub returns-in_err-request-clause-memory : goal.returns-in_err-request-clause-memory
returns-in_err-request-clause-memory c =
    let p = c.args.params.now in
    let words = words_of c.args.text.now in
    let wanted = c.in_err-request.ensures.memory in
    in_any_case ((lie : Lie) × ((from : Seat) → IsLieOf p from (codes "request" ∷ words) lie)) c.from_residual.result (lies.Request wanted.0, request_lie p words wanted.0 wanted.1)
