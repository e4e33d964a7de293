-- What a node owes, active or not.
use Rattle.std.proofs.Common.{sym}
use Rattle.std.proofs.lemmas.List.{append-nil}
use Rattle.std.proofs.lemmas.Result.{on_ok_weaker}
use Rattle.fw_kept.specs.Kept.{self_of, node_of}
use Rattle.fw_clock.proofs.Sending.{begins}
use Rattle.fw_clock.proofs.Waiting.{owed_votes, owed_change}
use Rattle.fw_clock.proofs.again.resends.Goals as goal

pub returns-then-not-keeps-clause-sent : goal.returns-then-not-keeps-clause-sent
returns-then-not-keeps-clause-sent c =
    let a = c.args in
    on_ok_weaker c.change_again.result
    (λ sent. owed_change (self_of a.directory.now a.hand.now a.own) (node_of a.keeps.now) a.out.now c.change_again.new.out c.if-not-keeps.true (sent a.hand.now))
    c.change_again.ensures.sent

pub returns-then-not-keeps-clause-begins : goal.returns-then-not-keeps-clause-begins
returns-then-not-keeps-clause-begins c =
    let a = c.args in
    begins c.change_again.result a.out.now c.change_again.new.out _
    (on_ok_weaker c.change_again.result (λ sent. sent a.hand.now) c.change_again.ensures.sent) c.change_again.ensures.err

pub returns-in-Some-clause-sent : goal.returns-in-Some-clause-sent
returns-in-Some-clause-sent c =
    let a = c.args in
    on_ok_weaker c.votes_again.result
    (λ sent. owed_votes (self_of a.directory.now a.hand.now a.own) (node_of a.keeps.now) _ a.out.now c.votes_again.new.out c.if-not-keeps.false (c.in-Some.ensures.least a.hand.now a.own) sent)
    c.votes_again.ensures.sent

pub returns-in-None-clause-sent : goal.returns-in-None-clause-sent
returns-in-None-clause-sent c =
    let a = c.args in
    owed_votes (self_of a.directory.now a.hand.now a.own) (node_of a.keeps.now) _ a.out.now a.out.now c.if-not-keeps.false (c.in-None.ensures.least a.hand.now a.own) (sym (append-nil a.out.now))
