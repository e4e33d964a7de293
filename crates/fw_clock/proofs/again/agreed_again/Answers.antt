-- The frame that goes again, or none.
use Rattle.std.proofs.Common.{sym}
use Rattle.std.proofs.lemmas.Result.{on_ok_weaker}
use Rattle.fw_clock.proofs.Waiting.{again_none, again_some, again_lost, sent_nothing}
use Rattle.fw_clock.proofs.again.agreed_again.Goals as goal

pub returns-in_default-clause-sent : goal.returns-in_default-clause-sent
returns-in_default-clause-sent c = λ hand own.
    let a = c.args in
    sent_nothing a.out.now _ (sym (again_none a.directory.now hand own a.keeps.now c.requires.for_sizes.1 (sym c.in_default.ensures)))

pub returns-in-Some-agreed_frame-clause-sent : goal.returns-in-Some-agreed_frame-clause-sent
returns-in-Some-agreed_frame-clause-sent c =
    let a = c.args in
    on_ok_weaker c.send_to_row0.result
    (λ sent hand own. again_some a.directory.now hand own a.keeps.now c.in-Some.number c.in-Some-agreed_frame.frame.now a.out.now c.send_to_row0.new.out c.requires.for_sizes.1 (sym c.in-Some.ensures) c.in-Some-agreed_frame.ensures (sent hand own))
    c.send_to_row0.ensures.sent

pub returns-in-None-clause-sent : goal.returns-in-None-clause-sent
returns-in-None-clause-sent c = λ hand own.
    let a = c.args in
    sent_nothing a.out.now _ (sym (again_lost a.directory.now hand own a.keeps.now c.in-Some.number c.requires.for_sizes.1 (sym c.in-Some.ensures) c.in-None.ensures))
