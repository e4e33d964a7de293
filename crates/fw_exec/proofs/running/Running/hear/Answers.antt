-- The agreed frame is kept, what can be executed is, and the share is sent again.
use Rattle.std.proofs.Common.{◌≡◌, ◌++◌, None, ap, sym, ◌∙◌, append-nil, rules}
use Rattle.fw_frame.specs.Plain.{plain_entry}
use Rattle.fw_frame.specs.View.{viewed_entry}
use Rattle.fw_trace.specs.Executor as executors
use Rattle.fw_exec.specs.Executors.{speech_by}
use Rattle.fw_exec.proofs.Executing.{hear_keeps, hear_sent}
use Rattle.fw_exec.proofs.running.Running.hear.Goals as goal

pub returns-in_ok-push-clause-keeps : goal.returns-in_ok-push-clause-keeps
returns-in_ok-push-clause-keeps g c =
    let sp = speech_by c.args.own.now c.args.directory.now in
    hear_keeps sp c.args.self.now c.note.new.self c.execute_all.new.self c.args.seat c.args.bytes.now c.args.number (viewed_entry (plain_entry c.args.entry.now)) c.in_ok-note.ensures.keeps c.in_ok-execute_all.ensures.keeps

pub returns-in_ok-push-clause-sent : goal.returns-in_ok-push-clause-sent
returns-in_ok-push-clause-sent g c =
    let sp = speech_by c.args.own.now c.args.directory.now in
    hear_sent sp c.args.self.now c.note.new.self c.args.seat c.args.bytes.now c.args.number (viewed_entry (plain_entry c.args.entry.now)) c.in_ok-again.again c.args.out.now c.execute_all.new.out c.push.new.self
    c.in_ok-again.ensures c.in_ok-note.ensures.keeps c.in_ok-execute_all.ensures.sent
    (c.in_ok-push.ensures.ok ∙ ap (λ o. c.execute_all.new.out ++ executors.option_sends c.args.seat o) (sym c.in-Some.is))

pub returns-in_default-clause-sent : goal.returns-in_default-clause-sent
returns-in_default-clause-sent g c =
    let sp = speech_by c.args.own.now c.args.directory.now in
    let none : c.in_ok-again.again ≡ None = search rules in
    hear_sent sp c.args.self.now c.note.new.self c.args.seat c.args.bytes.now c.args.number (viewed_entry (plain_entry c.args.entry.now)) c.in_ok-again.again c.args.out.now c.execute_all.new.out c.execute_all.new.out
    c.in_ok-again.ensures c.in_ok-note.ensures.keeps c.in_ok-execute_all.ensures.sent
    (sym (append-nil c.execute_all.new.out) ∙ ap (λ o. c.execute_all.new.out ++ executors.option_sends c.args.seat o) (sym none))
