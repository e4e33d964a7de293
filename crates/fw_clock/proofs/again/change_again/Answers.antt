-- The view change that is found, or none.
use Rattle.std.proofs.Common.{◌∙◌}
use Rattle.std.proofs.lemmas.Result.{on_ok_weaker}
use Rattle.fw_kept.specs.Kept.{self_of}
use Rattle.fw_frame.specs.View.{Changes}
use Rattle.fw_owned.specs.Pieces.{change_of}
use Rattle.fw_clock.proofs.Waiting.{change_sent, change_none, sent_nothing}
use Rattle.fw_clock.proofs.again.change_again.Goals as goal

pub returns-in_ok-bytes-in-Some-clause-sent : goal.returns-in_ok-bytes-in-Some-clause-sent
returns-in_ok-bytes-in-Some-clause-sent c =
    let a = c.args in
    on_ok_weaker c.send_to_others.result
    (λ sent hand. change_sent (self_of a.directory.now hand a.own) _ (change_of c.in-Some.change.now) a.out.now c.send_to_others.new.out c.in-Some.ensures
    (sent hand (Changes (change_of c.in-Some.change.now)) (c.items.ensures ∙ c.in_ok-bytes-in-Some.ensures)))
    c.send_to_others.ensures.sent

pub returns-in-None-clause-sent : goal.returns-in-None-clause-sent
returns-in-None-clause-sent c = λ hand.
    let a = c.args in
    sent_nothing a.out.now _ (change_none (self_of a.directory.now hand a.own) _ c.in-None.ensures)
