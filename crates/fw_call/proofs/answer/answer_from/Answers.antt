-- What is left to show of `answer_from`.
use Rattle.fw_call.specs.Reasons.{IsRightOr}
use Rattle.fw_call.proofs.Known.{told}
use Rattle.fw_call.proofs.answer.answer_from.Goals as goal

pub returns-in-Ok-clause-right : goal.returns-in-Ok-clause-right
returns-in-Ok-clause-right g c = told (λ b. IsRightOr c.args.command b c.answer_of.result) (g.S.Source.left c.args.source.now) c.in-Ok.bytes c.in-Ok.ensures.all (rw c.items.ensures at c.answer_of.ensures.right)
