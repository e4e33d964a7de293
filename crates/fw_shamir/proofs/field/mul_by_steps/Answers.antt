use Rattle.std.proofs.Common.{arith, ◌∙◌}
use Rattle.fw_shamir.proofs.Steps.{term-masked, no_terms}
use Rattle.fw_shamir.proofs.Laws.{times-product}
use Rattle.fw_shamir.proofs.field.mul_by_steps.Goals as goal

pub loop-preserved : goal.loop-preserved
loop-preserved c = rw c.twice-term.ensures (term-masked _ _ _ _ _ _ (omega arith) (omega arith) c.loop.invariant)

pub returns : goal.returns
returns c = no_terms _ _ _ _ _ (omega arith) c.loop.invariant ∙ times-product c.args.a c.args.b (omega arith) (omega arith)
