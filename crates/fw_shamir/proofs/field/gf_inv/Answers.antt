use Rattle.std.proofs.Common.{arith, ◌∙◌, ap, ◌-◌, ℕ}
use Rattle.fw_shamir.proofs.Logarithms.{log-some, table-inverse, one_inverse}
use Rattle.fw_shamir.proofs.TableFacts.{power_at}
use Rattle.fw_shamir.specs.Field.{gf_product}
use Rattle.fw_shamir.proofs.field.gf_inv.Goals as goal

pub overflow_sub-rest : goal.overflow_sub-rest
overflow_sub-rest c = omega (arith, c.logarithm-rest.ensures, (log-some c.args.a (omega arith) c.requires).0)

pub returns-clause-inverse : goal.returns-clause-inverse
returns-clause-inverse c =
    ap (gf_product c.args.a) (c.power.ensures ∙ ap (λ (x : ℕ). power_at (255 - x)) c.logarithm-rest.ensures) ∙ table-inverse c.args.a (omega arith) c.requires

pub returns-clause-only : goal.returns-clause-only
returns-clause-only c = λ b fits is. one_inverse c.args.a c.power.result b (omega arith) fits
    (ap (gf_product c.args.a) (c.power.ensures ∙ ap (λ (x : ℕ). power_at (255 - x)) c.logarithm-rest.ensures) ∙ table-inverse c.args.a (omega arith) c.requires) is
