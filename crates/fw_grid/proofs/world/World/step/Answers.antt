-- The first step that is left is done, or fails.
use Rattle.std.proofs.Common.{◌≡◌, ◌+◌, ◌<◌, ◌∷◌, ◌∙◌, List, Ok, length, take, drop, get_or, ap, sym, subst}
use Rattle.fw_step.specs.declared.step.Step.{Step}
use Rattle.fw_trace.specs.Run.{run_from}
use Rattle.fw_pool.proofs.Places.{drop_read}
use Rattle.fw_grid.specs.declared.fault.RunFault.TheVariants as faults
use Rattle.fw_grid.specs.Schedule.{schedule}
use Rattle.fw_grid.specs.Seen.{hands_in, world_of}
use Rattle.fw_grid.specs.Fronts.{IsFault, IsFront}
use Rattle.fw_grid.proofs.Running.{step_done, step_fails, drop_some}
use Rattle.fw_grid.proofs.world.World.step.Goals as goal

pub returns-in-Ok-clause-ok : goal.returns-in-Ok-clause-ok
returns-in-Ok-clause-ok g c =
    let step = c.index-items-k.result in
    let steps = c.self.inside.steps in
    let k = c.self.inside.done in
    let seen = c.self.inside.machine in
    let w = world_of g.A.Node.rule g.E.Node.rule g.F.Node.rule g.C.Node.rule seen in
    let some : 0 < length (drop k steps) = subst (λ v. 0 < length v.left) (sym c.self.view_is) c.requires.left in
    let left : drop k steps ≡ step ∷ drop (k + 1) steps = drop_read steps k step (drop_some steps k some) (c.index-items-k.is ∙ ap (λ (l : List Step). get_or l k step) c.items.ensures) in
    subst (λ v. run_from (world_of g.A.Node.rule g.E.Node.rule g.F.Node.rule g.C.Node.rule v.seen) v.done v.seen.trace (schedule (take 1 v.left)) ≡ Ok c.step.new.self.trace) c.self.view_is
    (ap (λ (l : List Step). run_from w k seen.trace (schedule (take 1 l))) left ∙ step_done w k seen.trace c.step.new.self.trace step c.in-Ok.ensures.ok)

pub returns-in-Err-Limit-clause-fault : goal.returns-in-Err-Limit-clause-fault
returns-in-Err-Limit-clause-fault g c =
    let step = c.index-items-k.result in
    let steps = c.self.inside.steps in
    let k = c.self.inside.done in
    let seen = c.self.inside.machine in
    let w = world_of g.A.Node.rule g.E.Node.rule g.F.Node.rule g.C.Node.rule seen in
    let some : 0 < length (drop k steps) = subst (λ v. 0 < length v.left) (sym c.self.view_is) c.requires.left in
    let left : drop k steps ≡ step ∷ drop (k + 1) steps = drop_read steps k step (drop_some steps k some) (c.index-items-k.is ∙ ap (λ (l : List Step). get_or l k step) c.items.ensures) in
    let failed = rw c.in-Err-Limit.field-0-is at c.in-Err-Limit.ensures.limit in
    subst (λ v. IsFault (world_of g.A.Node.rule g.E.Node.rule g.F.Node.rule g.C.Node.rule v.seen) v.done v.seen.trace (schedule v.left) c.step.new.self.trace (faults.Limit k c.in-Err-Limit.which)) c.self.view_is
    (subst (λ (l : List Step). IsFault w k seen.trace (schedule l) c.step.new.self.trace (faults.Limit k c.in-Err-Limit.which)) (sym left)
    (step_fails w k seen.trace c.step.new.self.trace step (drop (k + 1) steps) c.in-Err-Limit.which failed))

pub returns-in-Err-Limit-clause-front : goal.returns-in-Err-Limit-clause-front
returns-in-Err-Limit-clause-front g c =
    let step = c.index-items-k.result in
    let steps = c.self.inside.steps in
    let k = c.self.inside.done in
    let seen = c.self.inside.machine in
    let w = world_of g.A.Node.rule g.E.Node.rule g.F.Node.rule g.C.Node.rule seen in
    let some : 0 < length (drop k steps) = subst (λ v. 0 < length v.left) (sym c.self.view_is) c.requires.left in
    let left : drop k steps ≡ step ∷ drop (k + 1) steps = drop_read steps k step (drop_some steps k some) (c.index-items-k.is ∙ ap (λ (l : List Step). get_or l k step) c.items.ensures) in
    subst (λ v. IsFront (world_of g.A.Node.rule g.E.Node.rule g.F.Node.rule g.C.Node.rule v.seen) v.seen.trace (schedule v.left) c.step.new.self.trace) c.self.view_is
    (subst (λ (l : List Step). IsFront w seen.trace (schedule l) c.step.new.self.trace) (sym left) (c.in-Err-Limit.ensures.front (schedule (drop (k + 1) steps))))

pub returns-in-Err-Memory-clause-front : goal.returns-in-Err-Memory-clause-front
returns-in-Err-Memory-clause-front g c =
    let step = c.index-items-k.result in
    let steps = c.self.inside.steps in
    let k = c.self.inside.done in
    let seen = c.self.inside.machine in
    let w = world_of g.A.Node.rule g.E.Node.rule g.F.Node.rule g.C.Node.rule seen in
    let some : 0 < length (drop k steps) = subst (λ v. 0 < length v.left) (sym c.self.view_is) c.requires.left in
    let left : drop k steps ≡ step ∷ drop (k + 1) steps = drop_read steps k step (drop_some steps k some) (c.index-items-k.is ∙ ap (λ (l : List Step). get_or l k step) c.items.ensures) in
    subst (λ v. IsFront (world_of g.A.Node.rule g.E.Node.rule g.F.Node.rule g.C.Node.rule v.seen) v.seen.trace (schedule v.left) c.step.new.self.trace) c.self.view_is
    (subst (λ (l : List Step). IsFront w seen.trace (schedule l) c.step.new.self.trace) (sym left) (c.in-Err-Memory.ensures.front (schedule (drop (k + 1) steps))))

pub returns-in-Ok-clause-hands : goal.returns-in-Ok-clause-hands
returns-in-Ok-clause-hands g c = c.in-Ok.ensures.hands ∙ ap (λ v. hands_in g.A.Node.hand g.E.Node.hand g.F.Node.hand g.C.Node.hand v.seen) c.self.view_is

pub returns-in-Err-Limit-clause-hands : goal.returns-in-Err-Limit-clause-hands
returns-in-Err-Limit-clause-hands g c = c.in-Err-Limit.ensures.hands ∙ ap (λ v. hands_in g.A.Node.hand g.E.Node.hand g.F.Node.hand g.C.Node.hand v.seen) c.self.view_is

pub returns-in-Err-Memory-clause-hands : goal.returns-in-Err-Memory-clause-hands
returns-in-Err-Memory-clause-hands g c = c.in-Err-Memory.ensures.hands ∙ ap (λ v. hands_in g.A.Node.hand g.E.Node.hand g.F.Node.hand g.C.Node.hand v.seen) c.self.view_is
