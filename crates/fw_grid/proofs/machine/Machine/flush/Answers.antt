-- One turn more, one that fails, and the end.
use Rattle.std.proofs.Common.{◌≡◌, ◌∙◌, ◌≤◌, ◌+◌, Err, ap, sym, arith}
use Rattle.fw_trace.specs.Trace.{Delivers, next_frame}
use Rattle.fw_trace.specs.Run.{happens}
use Rattle.fw_grid.specs.Seen.{rule_in, world_of, hands_in}
use Rattle.fw_grid.specs.Fronts.{Seats}
use Rattle.fw_grid.proofs.Running.{same_world, if_limit, flush_more, flush_stops, flush_fails}
use Rattle.fw_grid.proofs.machine.Machine.flush.Goals as goal

pub returns-in_default-clause-ok : goal.returns-in_default-clause-ok
returns-in_default-clause-ok g c =
    let old = c.args.self.now in
    let now = c.loop.self in
    let w = world_of g.A.Node.rule g.E.Node.rule g.F.Node.rule g.C.Node.rule old in
    let world = same_world now.directory old.directory now.faulty old.faulty (rule_in g.A.Node.rule g.E.Node.rule g.F.Node.rule g.C.Node.rule now) (rule_in g.A.Node.rule g.E.Node.rule g.F.Node.rule g.C.Node.rule old) c.loop.invariant.directory c.loop.invariant.faulty c.loop.invariant.rule in
    let none = sym c.in_default.is ∙ c.next_due.ensures.next ∙ ap (λ (x : Seats). next_frame x.rules now.trace.log 0 now.trace.pool) world in
    rw c.next_due.ensures.same (flush_stops w c.loop.counter c.args.most old.trace now.trace c.loop.invariant.front c.loop.invariant.within none)

pub returns-in-Err-clause-limit : goal.returns-in-Err-clause-limit
returns-in-Err-clause-limit g c =
    let old = c.args.self.now in
    let now = c.loop.self in
    let w = world_of g.A.Node.rule g.E.Node.rule g.F.Node.rule g.C.Node.rule old in
    let world = same_world now.directory old.directory now.faulty old.faulty (rule_in g.A.Node.rule g.E.Node.rule g.F.Node.rule g.C.Node.rule now) (rule_in g.A.Node.rule g.E.Node.rule g.F.Node.rule g.C.Node.rule old) c.loop.invariant.directory c.loop.invariant.faulty c.loop.invariant.rule in
    let due = sym c.in-Some.is ∙ c.next_due.ensures.next ∙ ap (λ (x : Seats). next_frame x.rules now.trace.log 0 now.trace.pool) world in
    let here = ap (λ s. happens (world_of g.A.Node.rule g.E.Node.rule g.F.Node.rule g.C.Node.rule s) s.trace (Delivers c.in-Some.place)) c.next_due.ensures.same ∙ ap (λ (x : Seats). happens x now.trace (Delivers c.in-Some.place)) world in
    let kept : c.deliver.new.self.trace ≡ now.trace = c.in-Err.ensures.err ∙ ap (λ s. s.trace) c.next_due.ensures.same in
    if_limit (λ which. happens (world_of g.A.Node.rule g.E.Node.rule g.F.Node.rule g.C.Node.rule c.next_due.new.self) c.next_due.new.self.trace (Delivers c.in-Some.place) ≡ Err which) _ c.in-Err.halt
    (λ which failed.
    let both = flush_fails w c.loop.counter c.args.most old.trace now.trace c.in-Some.place which c.loop.invariant.front c.loop-test.true due (sym here ∙ failed) in
    (both.0, kept ∙ sym both.1)) c.in-Err.ensures.limit

pub loop-preserved : goal.loop-preserved
loop-preserved g c =
    let old = c.args.self.now in
    let now = c.loop.self in
    let w = world_of g.A.Node.rule g.E.Node.rule g.F.Node.rule g.C.Node.rule old in
    let world = same_world now.directory old.directory now.faulty old.faulty (rule_in g.A.Node.rule g.E.Node.rule g.F.Node.rule g.C.Node.rule now) (rule_in g.A.Node.rule g.E.Node.rule g.F.Node.rule g.C.Node.rule old) c.loop.invariant.directory c.loop.invariant.faulty c.loop.invariant.rule in
    let due = sym c.in-Some.is ∙ c.next_due.ensures.next ∙ ap (λ (x : Seats). next_frame x.rules now.trace.log 0 now.trace.pool) world in
    let here = ap (λ s. happens (world_of g.A.Node.rule g.E.Node.rule g.F.Node.rule g.C.Node.rule s) s.trace (Delivers c.in-Some.place)) c.next_due.ensures.same ∙ ap (λ (x : Seats). happens x now.trace (Delivers c.in-Some.place)) world in
    let within : c.loop.counter + 1 ≤ c.args.most = omega arith in
    record {
      going = c.in_default-deliver.ensures.going;
      directory = c.in_default-deliver.ensures.directory ∙ ap (λ s. s.directory) c.next_due.ensures.same ∙ c.loop.invariant.directory;
      faulty = c.in_default-deliver.ensures.faulty ∙ ap (λ s. s.faulty) c.next_due.ensures.same ∙ c.loop.invariant.faulty;
      rule = c.in_default-deliver.ensures.rule ∙ ap (λ s. rule_in g.A.Node.rule g.E.Node.rule g.F.Node.rule g.C.Node.rule s) c.next_due.ensures.same ∙ c.loop.invariant.rule;
      hands = c.in_default-deliver.ensures.hands ∙ ap (λ s. hands_in g.A.Node.hand g.E.Node.hand g.F.Node.hand g.C.Node.hand s) c.next_due.ensures.same ∙ c.loop.invariant.hands;
      within = within;
      front = flush_more w c.loop.counter old.trace now.trace c.deliver.new.self.trace c.in-Some.place c.loop.invariant.front due (sym here ∙ c.in_default-deliver.ensures.ok);
    }

pub returns-in_default-clause-hands : goal.returns-in_default-clause-hands
returns-in_default-clause-hands g c = ap (λ s. hands_in g.A.Node.hand g.E.Node.hand g.F.Node.hand g.C.Node.hand s) c.next_due.ensures.same ∙ c.loop.invariant.hands

pub returns-in-Err-clause-hands : goal.returns-in-Err-clause-hands
returns-in-Err-clause-hands g c = c.in-Err.ensures.hands ∙ ap (λ s. hands_in g.A.Node.hand g.E.Node.hand g.F.Node.hand g.C.Node.hand s) c.next_due.ensures.same ∙ c.loop.invariant.hands
