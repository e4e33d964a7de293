-- The tick, and the passes after it.
use Rattle.std.proofs.lemmas.Result.{on_ok_weaker}
use Rattle.fw_kept.specs.Kept.{self_of, node_of}
use Rattle.fw_clock.proofs.Sending.{begins_over}
use Rattle.fw_agree.specs.Steps.{at}
use Rattle.fw_agree.proofs.Going.{ticked_then}
use Rattle.fw_agree.proofs.agree.takes_tick.Goals as goal

pub returns-clause-step : goal.returns-clause-step
returns-clause-step c =
    let me = self_of c.args.directory.now c.args.hand.now c.args.own in
    on_ok_weaker c.passes.result
    (λ step. ticked_then me (node_of c.args.keeps.now) (node_of c.ticks.new.keeps) c.args.out.now c.ticks.new.out (at c.passes.new.keeps c.passes.new.out) c.in_ok-ticks.ensures.kept c.in_ok-ticks.ensures.sent step)
    c.passes.ensures.step

pub returns-clause-begins : goal.returns-clause-begins
returns-clause-begins c = begins_over c.args.out.now c.ticks.new.out c.passes.new.out c.ticks.ensures.begins c.passes.ensures.begins
