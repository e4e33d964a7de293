use Rattle.std.proofs.Common.{arith, ◌∙◌, ap₂, ◌+◌, ℕ}
use Rattle.fw_shamir.proofs.Logarithms.{log-most, table-product}
use Rattle.fw_shamir.proofs.TableFacts.{power_at}
use Rattle.fw_shamir.proofs.field.gf_mul.Goals as goal

pub overflow_add-sum : goal.overflow_add-sum
overflow_add-sum c = omega (arith, log-most c.args.a (omega arith), log-most c.args.b (omega arith))

pub power-requires : goal.power-requires
power-requires c = omega (arith, log-most c.args.a (omega arith), log-most c.args.b (omega arith))

pub returns : goal.returns
returns c =
    c.power.ensures ∙ ap₂ (λ (x y : ℕ). power_at (x + y)) c.logarithm.ensures c.logarithm-2.ensures
    ∙ table-product c.args.a c.args.b (omega arith) (omega arith)
