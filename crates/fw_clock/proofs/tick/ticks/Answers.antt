-- It waits, and then reminds.
use Rattle.std.proofs.lemmas.Result.{on_ok_weaker}
use Rattle.fw_rules.specs.Views as views
use Rattle.fw_kept.specs.Kept.{self_of, node_of}
use Rattle.fw_clock.proofs.Sending.{begins_over, begins}
use Rattle.fw_clock.proofs.Waiting.{ticks_sent}
use Rattle.fw_clock.proofs.tick.ticks.Goals as goal

pub returns-clause-sent : goal.returns-clause-sent
returns-clause-sent c =
    let a = c.args in
    let me = self_of a.directory.now a.hand.now a.own in
    on_ok_weaker c.agreed_again.result
    (λ sent. ticks_sent me (node_of c.waits.new.keeps) (views.waits me (node_of a.keeps.now)) a.out.now c.waits.new.out c.agreed_again.new.out c.in_ok-waits.ensures.kept c.in_ok-waits.ensures.sent (sent a.hand.now a.own))
    c.agreed_again.ensures.sent

pub returns-clause-begins : goal.returns-clause-begins
returns-clause-begins c =
    let a = c.args in
    begins_over a.out.now c.waits.new.out c.agreed_again.new.out c.waits.ensures.begins
    (begins c.agreed_again.result c.waits.new.out c.agreed_again.new.out _ (on_ok_weaker c.agreed_again.result (λ sent. sent a.hand.now a.own) c.agreed_again.ensures.sent) c.agreed_again.ensures.err)
