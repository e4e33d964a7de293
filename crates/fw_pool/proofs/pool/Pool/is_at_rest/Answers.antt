-- The test of rest is rest.
use Rattle.std.proofs.Common.{◌≡◌, ◌↔◌, Bool, IsTrue, List, ap, ap₂, sym, subst, ◌∙◌}
use Rattle.fw_base.specs.declared.seat.Seat.{Seat}
use Rattle.fw_trace.specs.Trace.{rests_from, IsAtRest}
use Rattle.fw_trace.proofs.Rest.{rest_is}
use Rattle.fw_node.specs.Histories.{History, Out}
use Rattle.fw_fair.specs.Hostile.{rules_among}
use Rattle.fw_pool.specs.Notes.{Frames, log_of}
use Rattle.fw_pool.specs.Due.{is_marked}
use Rattle.fw_pool.proofs.pool.Pool.is_at_rest.Goals as goal

test : (c : goal.After-rests) (rule : Seat → History → Out)
    → c.rests.result ≡ rests_from (rules_among c.self.inside.params c.self.inside.faulty rule) (log_of c.self.inside.frames.items c.self.inside.log) 0 c.self.inside.frames.items
test c rule =
    let log = log_of c.self.inside.frames.items c.self.inside.log in
    c.rests.ensures rule log (λ k. ap (λ (marks : List Bool). is_marked marks k) c.deref.ensures.value ∙ c.self.invariant.marked k)
    ∙ ap₂ (λ (faulty : List Seat) (frames : Frames). rests_from (rules_among c.self.inside.params faulty rule) log 0 frames) c.items.ensures c.deref-2.ensures.value

pub returns-clause-test : goal.returns-clause-test
returns-clause-test c = λ rule. rw (← c.self.view_is) (test c rule)

pub returns-clause-rest : goal.returns-clause-rest
returns-clause-rest c = λ rule.
    let frames : Frames = c.self.inside.frames.items in
    let log = log_of frames c.self.inside.log in
    let r = rules_among c.self.inside.params c.self.inside.faulty rule in
    rw (← c.self.view_is) (subst (λ (b : Bool). IsTrue b ↔ IsAtRest r (record { pool = frames; log = log })) (sym (test c rule)) (rest_is r log frames))
