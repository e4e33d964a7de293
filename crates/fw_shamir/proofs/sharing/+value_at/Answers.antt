use Rattle.std.proofs.Common.{◌<◌, ◌∙◌, length, arith, sym}
use Rattle.std.proofs.lemmas.Bool.{eqb-true}
use Rattle.std.proofs.lemmas.Grind.{common_steps}
use Rattle.fw_shamir.proofs.Points.{no_points, one_point, apart-lowered, some_points}
use Rattle.fw_shamir.proofs.sharing.+value_at.Goals as goal

pub returns-then-is_empty : goal.returns-then-is_empty
returns-then-is_empty t c = sym (no_points c.args.points.now c.args.at (eqb-true _ _ (sym c.is_empty.ensures ∙ c.if-is_empty.true)))

pub value_at-below-requires : goal.value_at-below-requires
value_at-below-requires t c =
    let some : 0 < length c.args.points.now = some_points c.args.points.now (sym c.is_empty.ensures ∙ c.if-is_empty.false) in
    (grind (arith, common_steps), apart-lowered c.args.points.now c.lower.new.rest _ some c.lower.ensures c.requires)

pub returns : goal.returns
returns t c =
    let some : 0 < length c.args.points.now = some_points c.args.points.now (sym c.is_empty.ensures ∙ c.if-is_empty.false) in
    rw c.gf_mul.ensures (one_point c.args.points.now c.lower.new.rest _ c.args.at c.value_at-below.result some c.lower.ensures c.value_at-below.ensures)
