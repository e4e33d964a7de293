-- A node more, or none.
use Rattle.std.proofs.Common.{◌≡◌, ℕ, ap, sym, ◌∙◌, arith}
use Rattle.std.specs.Prelude.{is_some}
use Rattle.fw_view.specs.Counted.{frame_of}
use Rattle.fw_view.proofs.Frames.{copied}
use Rattle.fw_view.proofs.Senders.{one_more, none_more}
use Rattle.fw_view.proofs.changes.Changes.sender_count.Goals.{then-is_some, else-is_some}
use Rattle.fw_view.proofs.changes.Changes.sender_count.Goals as goal

pub loop-agree-preserved : goal.loop-agree-preserved
loop-agree-preserved c =
    let k = c.loop-agree.agree in
    let p = λ (i : ℕ). is_some (frame_of c.args.self.now c.args.view i) in
    let same : c.is_some.result ≡ p k = c.is_some.ensures ∙ sym (copied c.frame.result) ∙ ap is_some c.frame.ensures in
    elim c.if-is_some.branch [
      | then-is_some w ↦ record {
        few = rw w.count-is (omega (arith, c.loop-agree.invariant.few));
        all = rw w.count-is (one_more p k c.agreements-agree-end.result c.loop-agree.count _ c.loop-agree-test.true (sym same ∙ w.if-is_some.true) c.loop-agree.invariant.all);
      }
      | else-is_some w ↦ record {
        few = rw w.count-is (omega (arith, c.loop-agree.invariant.few));
        all = rw w.count-is (none_more p k c.agreements-agree-end.result c.loop-agree.count _ c.loop-agree-test.true (sym same ∙ w.if-is_some.false) c.loop-agree.invariant.all);
      }
    ]
