-- One step more, and one that fails.
use Rattle.std.proofs.Common.{◌≡◌, ◌+◌, ◌-◌, ◌<◌, ◌∙◌, List, Ok, length, take, ap, subst, arith}
use Rattle.std.proofs.lemmas.List.{length-drop}
use Rattle.fw_step.specs.declared.step.Step.{Step}
use Rattle.fw_trace.specs.Run.{run_from}
use Rattle.fw_grid.specs.Schedule.{schedule}
use Rattle.fw_grid.specs.Seen.{rule_in, world_of}
use Rattle.fw_grid.specs.Fronts.{Seats, IsFront, run_end}
use Rattle.fw_grid.proofs.Running.{same_world, fault_of_all, run_more}
use Rattle.fw_grid.proofs.world.World.run.Goals as goal

pub returns-in-Err-clause-fault : goal.returns-in-Err-clause-fault
returns-in-Err-clause-fault g c =
    let old = c.args.self.now in
    let now = c.loop.self in
    let w = world_of g.A.Node.rule g.E.Node.rule g.F.Node.rule g.C.Node.rule old.seen in
    let world = same_world now.seen.directory old.seen.directory now.seen.faulty old.seen.faulty (rule_in g.A.Node.rule g.E.Node.rule g.F.Node.rule g.C.Node.rule now.seen) (rule_in g.A.Node.rule g.E.Node.rule g.F.Node.rule g.C.Node.rule old.seen) c.loop.invariant.directory c.loop.invariant.faulty c.loop.invariant.rule in
    fault_of_all (world_of g.A.Node.rule g.E.Node.rule g.F.Node.rule g.C.Node.rule now.seen) w now.done old.done now.seen.trace old.seen.trace c.step.new.self.seen.trace (schedule now.left) (schedule old.left) c.in-Err.fault world c.loop.invariant.runs c.loop.invariant.ends c.in-Err.ensures.fault

pub returns-in-Err-clause-front : goal.returns-in-Err-clause-front
returns-in-Err-clause-front g c =
    let old = c.args.self.now in
    let now = c.loop.self in
    let w = world_of g.A.Node.rule g.E.Node.rule g.F.Node.rule g.C.Node.rule old.seen in
    let world = same_world now.seen.directory old.seen.directory now.seen.faulty old.seen.faulty (rule_in g.A.Node.rule g.E.Node.rule g.F.Node.rule g.C.Node.rule now.seen) (rule_in g.A.Node.rule g.E.Node.rule g.F.Node.rule g.C.Node.rule old.seen) c.loop.invariant.directory c.loop.invariant.faulty c.loop.invariant.rule in
    c.loop.invariant.fronts c.step.new.self.seen.trace (subst (λ (x : Seats). IsFront x now.seen.trace (schedule now.left) c.step.new.self.seen.trace) world c.in-Err.ensures.front)

pub loop-preserved : goal.loop-preserved
loop-preserved g c =
    let old = c.args.self.now in
    let now = c.loop.self in
    let w = world_of g.A.Node.rule g.E.Node.rule g.F.Node.rule g.C.Node.rule old.seen in
    let world = same_world now.seen.directory old.seen.directory now.seen.faulty old.seen.faulty (rule_in g.A.Node.rule g.E.Node.rule g.F.Node.rule g.C.Node.rule now.seen) (rule_in g.A.Node.rule g.E.Node.rule g.F.Node.rule g.C.Node.rule old.seen) c.loop.invariant.directory c.loop.invariant.faulty c.loop.invariant.rule in
    let next = c.step.new.self in
    let some : 0 < length now.left = (let l = c.loop.invariant.left in omega arith) in
    let done : run_from w now.done now.seen.trace (schedule (take 1 now.left)) ≡ Ok next.seen.trace =
    subst (λ (x : Seats). run_from x now.done now.seen.trace (schedule (take 1 now.left)) ≡ Ok next.seen.trace) world c.in_default.ensures.ok in
    let more = run_more w now.done now.seen.trace next.seen.trace now.left some done in
    let fewer : length next.left ≡ length now.left - 1 = ap (λ (l : List Step). length l) c.in_default.ensures.left ∙ length-drop 1 now.left in
    record {
      going = c.in_default.ensures.going;
      directory = c.in_default.ensures.directory ∙ c.loop.invariant.directory;
      faulty = c.in_default.ensures.faulty ∙ c.loop.invariant.faulty;
      rule = c.in_default.ensures.rule ∙ c.loop.invariant.rule;
      hands = c.in_default.ensures.hands ∙ c.loop.invariant.hands;
      left = (let l = c.loop.invariant.left in omega arith);
      runs = ap (λ k. run_from w k next.seen.trace (schedule next.left)) c.in_default.ensures.done
          ∙ ap (λ (l : List Step). run_from w (now.done + 1) next.seen.trace (schedule l)) c.in_default.ensures.left ∙ more.0 ∙ c.loop.invariant.runs;
      ends = ap (λ (l : List Step). run_end w next.seen.trace (schedule l)) c.in_default.ensures.left ∙ more.1 ∙ c.loop.invariant.ends;
      fronts = λ x front. c.loop.invariant.fronts x (more.2 x (subst (λ (l : List Step). IsFront w next.seen.trace (schedule l) x) c.in_default.ensures.left front));
    }

pub returns-in-Err-clause-hands : goal.returns-in-Err-clause-hands
returns-in-Err-clause-hands g c = c.in-Err.ensures.hands ∙ c.loop.invariant.hands
