-- Turn by turn: after a turn that was taken, and where none is left.
use Rattle.std.proofs.Common.{◌≡◌, ◌++◌, ◌<◌, ◌≤◌, length, true, rules, ap, sym, ◌∙◌}
use Rattle.fw_exec.specs.Executors.{speech_by}
use Rattle.fw_exec.proofs.Turns.{after, sent, can, taken_after, taken_sent, ended, begins_by}
use Rattle.fw_exec.proofs.running.Running.execute_all.Goals as goal

pub loop-preserved : goal.loop-preserved
loop-preserved g c =
    let all = length c.args.self.now.kept in
    let sp = speech_by c.args.own.now c.args.directory.now in
    let x = c.loop.self in
    let y = c.execute_next.new.self in
    let inside : c.loop.counter < all = search rules in
    let yes : c.in_ok-execute_next.field-0 ≡ true = search rules in
    let some : can x ≡ true = sym c.in_ok-execute_next.ensures.done ∙ yes in
    record {
      keeps = taken_after sp all c.loop.counter x y inside some c.in_ok-execute_next.ensures.keeps ∙ c.loop.invariant.keeps;
      sends = taken_sent sp all c.loop.counter x y c.loop.out c.execute_next.new.out inside some c.in_ok-execute_next.ensures.keeps c.in_ok-execute_next.ensures.sent ∙ c.loop.invariant.sends;
      running = c.in_ok-execute_next.ensures.running;
      begins = begins_by c.args.out.now c.loop.out c.execute_next.new.out _ c.loop.invariant.begins c.in_ok-execute_next.ensures.sent;
    }

pub returns-clause-keeps : goal.returns-clause-keeps
returns-clause-keeps g c =
    let all = length c.args.self.now.kept in
    let sp = speech_by c.args.own.now c.args.directory.now in
    let past : all ≤ c.loop.counter = search rules in
    c.in_ok-execute_next-2.ensures.keeps ∙ ap (λ n. after sp n c.loop.self) (ended all c.loop.counter past) ∙ c.loop.invariant.keeps

pub returns-clause-sent : goal.returns-clause-sent
returns-clause-sent g c =
    let all = length c.args.self.now.kept in
    let sp = speech_by c.args.own.now c.args.directory.now in
    let past : all ≤ c.loop.counter = search rules in
    c.in_ok-execute_next-2.ensures.sent ∙ ap (λ n. c.loop.out ++ sent sp n c.loop.self) (ended all c.loop.counter past) ∙ c.loop.invariant.sends
