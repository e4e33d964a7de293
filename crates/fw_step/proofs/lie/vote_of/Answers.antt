-- Where an entry couldn't be copied, the lie stands there.
use Rattle.std.proofs.Common.{codes, ◌∷◌, sym, ap, ◌∙◌}
use Rattle.fw_op.proofs.Each.{in_any_case}
use Rattle.fw_op.specs.Words.{words_of}
use Rattle.fw_step.specs.declared.step.Lie.{Lie}
use Rattle.fw_step.specs.declared.step.Lie.TheVariants as lies
use Rattle.fw_step.specs.Parts.{IsLieOf}
use Rattle.fw_step.proofs.Made.{vote_lie}
use Rattle.fw_step.proofs.lie.vote_of.Goals as goal

pub returns-in_err-view-clause-memory : goal.returns-in_err-view-clause-memory
returns-in_err-view-clause-memory c =
    let p = c.args.params.now in
    let from = c.args.from in
    let words = words_of c.args.text.now in
    let wanted = c.in_err-view.ensures.memory in
    let phase = c.in-Some-phase_of.phase in
    let named = c.in-Some-phase_of.ensures.found in
    in_any_case ((lie : Lie) × IsLieOf p from (codes "vote" ∷ words) lie) c.from_residual.result (
      lies.Vote phase wanted.0 wanted.1 wanted.2,
      vote_lie p from words (words_of c.in-Some.rest.now) phase wanted.0 wanted.1 wanted.2 (sym c.if-not-is_agreement.ensures) (c.in-Some.ensures ∙ ap (λ w. w ∷ words_of c.in-Some.rest.now) named.0) named.1 wanted.3,
    )
