-- Each correct agreement node is asked for once.
use Rattle.std.proofs.Common.{◌≡◌, ◌≤◌, ap, ◌∙◌, arith}
use Rattle.std.specs.Prelude.{not}
use Rattle.fw_base.specs.declared.seat.Seat.TheVariants.{Agree}
use Rattle.fw_step.specs.Fitting.{is_faulty}
use Rattle.fw_seen.specs.Summary.{view_at, greatest_view}
use Rattle.fw_world.proofs.Views.{greater_yet, none_left}
use Rattle.fw_world.proofs.viewing.greatest_view.Goals as goal

pub loop-i-preserved : goal.loop-i-preserved
loop-i-preserved c = λ d faulty keys played.
    let t = c.args.world.now.seen.trace in
    greater_yet (λ k. not (is_faulty faulty (Agree k))) (view_at d t) c.loop-i.i c.agreements-count.result c.loop-i.greatest c.with_view_of-greatest.result (greatest_view d faulty t) c.loop-i-test.true
    (c.with_view_of-greatest.ensures d faulty keys played) (c.loop-i.invariant d faulty keys played)

pub returns : goal.returns
returns c = λ d faulty keys played.
    let t = c.args.world.now.seen.trace in
    let over : c.agreements-count.result ≤ c.loop-i.i = omega arith in
    none_left (λ k. not (is_faulty faulty (Agree k))) (view_at d t) c.loop-i.i c.agreements-count.result c.loop-i.greatest (greatest_view d faulty t) over (c.loop-i.invariant d faulty keys played)
