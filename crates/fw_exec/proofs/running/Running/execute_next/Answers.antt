-- The next number is executed.
use Rattle.std.proofs.Common.{◌++◌, ap, sym, ◌∙◌}
use Rattle.fw_trace.specs.Client.{to_all}
use Rattle.fw_rules.specs.Roles.{row_of}
use Rattle.fw_exec.specs.Executors.{speech_by}
use Rattle.fw_exec.proofs.Executing.{next_at, next_keeps, next_sent, next_running}
use Rattle.fw_exec.proofs.running.Running.execute_next.Goals as goal

pub execute-requires-clause-entry : goal.execute-requires-clause-entry
execute-requires-clause-entry g c =
    next_at c.args.own.now.params c.args.self.now c.self.inside.kept c.done-number.result c.in-Some.entry.now c.requires.running (ap (λ x. x.kept) (sym c.self.view_is)) c.in-Some.ensures

pub returns-clause-keeps : goal.returns-clause-keeps
returns-clause-keeps g c =
    let x = c.self.inside in
    next_keeps (speech_by c.args.own.now c.args.directory.now) x.kept x.from x.replica c.execute.new.replica x.shares c.push.new.self c.args.self.now c.done-number.result c.in-Some.entry.now c.in_ok-share.share c.in_ok-copy.copy
    c.self.view_is c.done-number.ensures c.in-Some.ensures c.in_ok-share.ensures.after (c.in_ok-share.ensures.share c.args.directory.now) (c.in_ok-copy.ensures ∙ c.items.ensures) c.in_ok-push.ensures.ok

pub returns-clause-sent : goal.returns-clause-sent
returns-clause-sent g c =
    let x = c.self.inside in
    let tos = c.items-2.ensures ∙ c.in_ok-filters.ensures ∙ ap (λ p. row_of p p.h) c.params-params.ensures.same in
    next_sent (speech_by c.args.own.now c.args.directory.now) x.kept x.from x.replica x.shares c.args.self.now c.done-number.result c.in-Some.entry.now c.in_ok-share.share c.items-2.result.now c.args.out.now c.send_to_all.new.self
    c.self.view_is c.done-number.ensures c.in-Some.ensures (c.in_ok-share.ensures.share c.args.directory.now) tos
    (c.in_ok-send_to_all.ensures.ok ∙ ap (λ bytes. c.args.out.now ++ to_all c.items-2.result.now bytes) c.items-3.ensures)

pub returns-clause-running : goal.returns-clause-running
returns-clause-running g c =
    let x = c.self.inside in
    let at = next_at c.args.own.now.params c.args.self.now x.kept c.done-number.result c.in-Some.entry.now c.requires.running (ap (λ q. q.kept) (sym c.self.view_is)) c.in-Some.ensures in
    next_running c.args.own.now.params x.kept x.from x.replica c.execute.new.replica x.shares c.push.new.self c.args.self.now c.done-number.result c.in-Some.entry.now c.requires.running
    c.self.view_is c.done-number.ensures at (ap (λ r. r.done) c.in_ok-share.ensures.after) c.in_ok-share.ensures.reached
