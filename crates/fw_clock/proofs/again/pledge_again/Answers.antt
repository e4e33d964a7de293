-- The commit vote that is found, or none.
use Rattle.std.proofs.lemmas.Result.{on_ok_weaker}
use Rattle.fw_kept.specs.Kept.{self_of, node_of}
use Rattle.fw_clock.proofs.Waiting.{pledge_sent, pledge_none, sent_nothing}
use Rattle.fw_clock.proofs.again.pledge_again.Goals as goal

pub returns-in-Some-clause-sent : goal.returns-in-Some-clause-sent
returns-in-Some-clause-sent c =
    let a = c.args in
    let me = self_of a.directory.now a.hand.now a.own in
    on_ok_weaker c.vote_again.result
    (λ sent. pledge_sent me (node_of a.keeps.now) a.number _ _ a.out.now c.vote_again.new.out c.in-Some.ensures sent)
    c.vote_again.ensures.sent

pub returns-in-None-clause-sent : goal.returns-in-None-clause-sent
returns-in-None-clause-sent c =
    let a = c.args in
    sent_nothing a.out.now _ (pledge_none (self_of a.directory.now a.hand.now a.own) (node_of a.keeps.now) a.number _ c.in-None.ensures)
