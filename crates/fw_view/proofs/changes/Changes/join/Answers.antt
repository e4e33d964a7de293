-- The views from the greatest down.
use Rattle.std.proofs.Common.{ℕ, Bool, sym, ap, ◌∙◌}
use Rattle.std.specs.List.{find}
use Rattle.fw_view.specs.Counted.{Counted, calls_for, views_down}
use Rattle.fw_view.proofs.Senders.{next_view, this_view}
use Rattle.fw_view.proofs.changes.Changes.join.Goals as goal

pub returns-then-calls_for : goal.returns-then-calls_for
returns-then-calls_for c =
    let p : ℕ → Bool = calls_for c.args.self.now c.args.own c.args.agree in
    this_view p c.self.inside.params.views c.loop-k.k c.loop-k-test.true (sym c.calls_for.ensures ∙ c.if-calls_for.true)
    ∙ c.loop-k.invariant
    ∙ ap (λ (x : Counted). find p (views_down x.params.views)) c.self.view_is

pub loop-k-preserved : goal.loop-k-preserved
loop-k-preserved c =
    let p : ℕ → Bool = calls_for c.args.self.now c.args.own c.args.agree in
    next_view p c.self.inside.params.views c.loop-k.k c.loop-k-test.true (sym c.calls_for.ensures ∙ c.if-calls_for.false) ∙ c.loop-k.invariant
