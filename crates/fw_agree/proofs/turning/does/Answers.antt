-- A turn is done.
use Rattle.fw_kept.specs.Kept.{self_of, node_of}
use Rattle.fw_turn.specs.Turns.{turn_of}
use Rattle.fw_clock.proofs.Sending.{begins}
use Rattle.fw_agree.proofs.Turned.{both_turned}
use Rattle.fw_agree.proofs.turning.does.Goals as goal

pub returns-in-Some-clause-step : goal.returns-in-Some-clause-step
returns-in-Some-clause-step c =
    let a = c.args in
    rw c.in-Some.is
    (both_turned (self_of a.directory.now a.hand.now a.own) (node_of a.keeps.now) (node_of c.turns.new.keeps) (turn_of c.in-Some.turn) a.out.now c.turns.new.out c.turns.result c.turns.ensures.kept c.turns.ensures.sent)

pub returns-in-Some-clause-begins : goal.returns-in-Some-clause-begins
returns-in-Some-clause-begins c = begins c.turns.result c.args.out.now c.turns.new.out _ c.turns.ensures.sent c.turns.ensures.err
