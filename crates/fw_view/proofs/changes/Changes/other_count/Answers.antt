-- A node more, or none.
use Rattle.std.proofs.Common.{ℕ, ◌&&◌, not, nat_eq, sym, ◌∙◌, arith}
use Rattle.fw_view.specs.Counted.{sent_for}
use Rattle.fw_view.proofs.Senders.{one_more, none_more}
use Rattle.fw_view.proofs.changes.Changes.other_count.Goals.{then-is_other_for, else-is_other_for}
use Rattle.fw_view.proofs.changes.Changes.other_count.Goals as goal

pub loop-agree-preserved : goal.loop-agree-preserved
loop-agree-preserved c =
    let k = c.loop-agree.agree in
    let p = λ (i : ℕ). not (nat_eq i c.args.own) && sent_for c.args.self.now c.args.view i in
    elim c.if-is_other_for.branch [
      | then-is_other_for w ↦ record {
        few = rw w.count-is (omega (arith, c.loop-agree.invariant.few));
        all = rw w.count-is (one_more p k c.agreements-agree-end.result c.loop-agree.count _ c.loop-agree-test.true (sym c.is_other_for.ensures ∙ w.if-is_other_for.true) c.loop-agree.invariant.all);
      }
      | else-is_other_for w ↦ record {
        few = rw w.count-is (omega (arith, c.loop-agree.invariant.few));
        all = rw w.count-is (none_more p k c.agreements-agree-end.result c.loop-agree.count _ c.loop-agree-test.true (sym c.is_other_for.ensures ∙ w.if-is_other_for.false) c.loop-agree.invariant.all);
      }
    ]
