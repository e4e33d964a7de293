-- The view is turned, and then numbers are ordered.
use Rattle.std.proofs.lemmas.Result.{on_ok_weaker}
use Rattle.fw_kept.specs.Kept.{self_of}
use Rattle.fw_agree.specs.Steps.{at}
use Rattle.fw_clock.proofs.Sending.{begins_over}
use Rattle.fw_agree.proofs.Going.{all_chain}
use Rattle.fw_agree.proofs.passes.passes.Goals as goal

pub returns-clause-step : goal.returns-clause-step
returns-clause-step c =
    let me = self_of c.args.directory.now c.args.hand.now c.args.own in
    on_ok_weaker c.orders.result
    (λ step. all_chain me (at c.args.keeps.now c.args.out.now) (at c.changes_view.new.keeps c.changes_view.new.out) (at c.orders.new.keeps c.orders.new.out) c.in_ok-changes_view.ensures.step step)
    c.orders.ensures.step

pub returns-clause-sizes : goal.returns-clause-sizes
returns-clause-sizes c = c.orders.ensures.sizes c.args.directory.now.params c.changes_view.ensures.sizes

pub returns-clause-begins : goal.returns-clause-begins
returns-clause-begins c = begins_over c.args.out.now c.changes_view.new.out c.orders.new.out c.changes_view.ensures.begins c.orders.ensures.begins
