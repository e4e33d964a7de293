-- Where an answer couldn't be copied, the lie stands there.
use Rattle.std.proofs.Common.{codes, ◌∷◌, sym}
use Rattle.fw_op.proofs.Each.{in_any_case}
use Rattle.fw_op.specs.Words.{words_of}
use Rattle.fw_step.specs.declared.step.Lie.{Lie}
use Rattle.fw_step.specs.declared.step.Lie.TheVariants as lies
use Rattle.fw_step.specs.Parts.{IsLieOf}
use Rattle.fw_step.proofs.Made.{share_lie}
use Rattle.fw_step.proofs.lie.share_of.Goals as goal

pub returns-in_err-number-clause-memory : goal.returns-in_err-number-clause-memory
returns-in_err-number-clause-memory c =
    let p = c.args.params.now in
    let from = c.args.from in
    let words = words_of c.args.text.now in
    let wanted = c.in_err-number.ensures.memory in
    in_any_case ((lie : Lie) × IsLieOf p from (codes "share" ∷ words) lie) c.from_residual.result
    (lies.Share wanted.0 wanted.1, share_lie p from words wanted.0 wanted.1 (sym c.if-not-is_executor.ensures) wanted.2)
