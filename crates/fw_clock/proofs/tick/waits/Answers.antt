-- A change of view starts where it is time for one.
use Rattle.std.proofs.Common.{List, ℕ, ◌+◌, ◌++◌, ap, ◌∙◌}
use Rattle.std.proofs.lemmas.Result.{on_ok_weaker}
use Rattle.fw_rules.specs.Agree as rules
use Rattle.fw_kept.specs.Kept.{self_of, node_of}
use Rattle.fw_clock.proofs.Sending.{begins}
use Rattle.fw_clock.proofs.Waiting.{waits_start, waits_still, next_below}
use Rattle.fw_clock.proofs.tick.waits.Goals as goal

pub starts_next-requires-clause-next : goal.starts_next-requires-clause-next
starts_next-requires-clause-next c =
    next_below c.idle_now-idle.result (c.args.keeps.now.view + 1) c.args.directory.now.params.views c.starts_change.result c.starts_change.ensures c.if-starts_change.true

pub returns-then-starts_change-clause-kept : goal.returns-then-starts_change-clause-kept
returns-then-starts_change-clause-kept c =
    let a = c.args in
    let as_rule = waits_start (self_of a.directory.now a.hand.now a.own) (node_of a.keeps.now) c.idle_now-idle.result c.starts_change.result (c.idle_now-idle.ensures.idle a.hand.now a.own) c.starts_change.ensures c.if-starts_change.true in
    on_ok_weaker c.starts_next.result (λ kept. kept ∙ ap (λ (s : rules.Step (List ℕ)). s.0) as_rule) c.starts_next.ensures.kept

pub returns-then-starts_change-clause-sent : goal.returns-then-starts_change-clause-sent
returns-then-starts_change-clause-sent c =
    let a = c.args in
    let as_rule = waits_start (self_of a.directory.now a.hand.now a.own) (node_of a.keeps.now) c.idle_now-idle.result c.starts_change.result (c.idle_now-idle.ensures.idle a.hand.now a.own) c.starts_change.ensures c.if-starts_change.true in
    on_ok_weaker c.starts_next.result (λ sent. sent ∙ ap (λ (s : rules.Step (List ℕ)). a.out.now ++ s.1) as_rule) c.starts_next.ensures.sent

pub returns-then-starts_change-clause-begins : goal.returns-then-starts_change-clause-begins
returns-then-starts_change-clause-begins c =
    begins c.starts_next.result c.args.out.now c.starts_next.new.out _ c.starts_next.ensures.sent c.starts_next.ensures.err

pub returns-else-starts_change-clause-kept : goal.returns-else-starts_change-clause-kept
returns-else-starts_change-clause-kept c =
    let a = c.args in
    let as_rule = waits_still (self_of a.directory.now a.hand.now a.own) (node_of a.keeps.now) c.idle_now-idle.result c.starts_change.result (c.idle_now-idle.ensures.idle a.hand.now a.own) c.starts_change.ensures c.if-starts_change.false in
    on_ok_weaker c.waits_on.result (λ sent. c.waits_on.ensures.kept ∙ ap (λ (s : rules.Step (List ℕ)). s.0) as_rule) c.waits_on.ensures.sent

pub returns-else-starts_change-clause-sent : goal.returns-else-starts_change-clause-sent
returns-else-starts_change-clause-sent c =
    let a = c.args in
    let as_rule = waits_still (self_of a.directory.now a.hand.now a.own) (node_of a.keeps.now) c.idle_now-idle.result c.starts_change.result (c.idle_now-idle.ensures.idle a.hand.now a.own) c.starts_change.ensures c.if-starts_change.false in
    on_ok_weaker c.waits_on.result (λ sent. sent ∙ ap (λ (s : rules.Step (List ℕ)). a.out.now ++ s.1) as_rule) c.waits_on.ensures.sent
