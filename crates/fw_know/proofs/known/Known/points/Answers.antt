-- A point more, or none.
use Rattle.std.proofs.Common.{ℕ, sym, ◌∙◌, arith}
use Rattle.fw_know.specs.Known.{is_marked, at_point}
use Rattle.fw_know.proofs.Knowing.{one_more, none_more}
use Rattle.fw_know.proofs.known.Known.points.Goals.{then-is_marked, else-is_marked}
use Rattle.fw_know.proofs.known.Known.points.Goals as goal

pub loop-point-preserved : goal.loop-point-preserved
loop-point-preserved c =
    let k = c.loop-point.point in
    let t = λ (n : ℕ). is_marked c.args.self.now (at_point c.args.place.now n) in
    elim c.if-is_marked.branch [
      | then-is_marked w ↦ record {
        few = rw w.count-is (omega (arith, c.loop-point.invariant.few));
        all = rw w.count-is (one_more t k _ c.loop-point.count _ c.loop-point-test.true (sym c.is_marked.ensures ∙ w.if-is_marked.true) c.loop-point.invariant.all);
      }
      | else-is_marked w ↦ record {
        few = rw w.count-is (omega (arith, c.loop-point.invariant.few));
        all = rw w.count-is (none_more t k _ c.loop-point.count _ c.loop-point-test.true (sym c.is_marked.ensures ∙ w.if-is_marked.false) c.loop-point.invariant.all);
      }
    ]
