-- The run of the new nodes is the plan's.
use Rattle.std.proofs.Common.{◌≡◌, ap, ◌∙◌, subst}
use Rattle.fw_deal.specs.Deals.{PlainDeal, IsDirectoryOf}
use Rattle.fw_agree.specs.Standing as agreeing
use Rattle.fw_exec.specs.Standing as executing
use Rattle.fw_filter.specs.Standing as filtering
use Rattle.fw_client.specs.Standing as asking
use Rattle.fw_grid.specs.GridNodes.{nodes_of}
use Rattle.fw_world.specs.Plans.{IsRunOf}
use Rattle.fw_world.proofs.OwnRun.{steps_of, goes, own_run, own_fault, are_played}
use Rattle.fw_world.proofs.playing.play.Goals as goal

pub new-requires-clause-steps : goal.new-requires-clause-steps
new-requires-clause-steps g c =
    steps_of c.args.plan c.into_directory.result (c.into_directory.ensures.sizes ∙ ap (λ (x : PlainDeal). x.origin.params) c.requires.deal) c.requires.steps

pub new-requires-clause-fresh : goal.new-requires-clause-fresh
new-requires-clause-fresh g c = (rw c.items.ensures at c.in_ok-grid.ensures.fresh) c.into_directory.result c.into_directory.ensures.sizes

pub returns-in-Ok-clause-run : goal.returns-in-Ok-clause-run
returns-in-Ok-clause-run g c =
    let plan = c.args.plan in
    let d = c.into_directory.result in
    let nodes = nodes_of c.in_ok-grid.grid in
    let same : c.run.new.self.seen.directory ≡ d = c.in-Ok.ensures.directory ∙ ap (λ w. w.seen.directory) c.in_ok-world.ensures in
    let run : IsRunOf plan d c.run.new.self.seen.trace =
    own_run agreeing.rule_of executing.rule_of filtering.rule_of asking.rule_of plan d nodes c.in_ok-world.world c.run.new.self.seen.trace
    (subst (λ (x : PlainDeal). IsDirectoryOf x.origin d) c.requires.deal c.into_directory.ensures)
    (goes agreeing.rule_of executing.rule_of filtering.rule_of asking.rule_of c.args.deal plan d nodes c.requires.deal (λ seat h. (rw c.items.ensures at c.in_ok-grid.ensures.rules) d seat h c.into_directory.ensures.sizes))
    c.in_ok-world.ensures c.in-Ok.ensures.ok in
    rw same run

pub returns-in-Ok-clause-played : goal.returns-in-Ok-clause-played
returns-in-Ok-clause-played g c = λ keys key.
    let plan = c.args.plan in
    let d = c.into_directory.result in
    let nodes = nodes_of c.in_ok-grid.grid in
    let same : c.run.new.self.seen.directory ≡ d = c.in-Ok.ensures.directory ∙ ap (λ w. w.seen.directory) c.in_ok-world.ensures in
    are_played (λ n. n.hand) (λ n. n.hand) (λ n. n.hand) (λ n. n.hand) c.args.deal plan d nodes c.in_ok-world.world c.run.new.self.seen keys c.requires.deal c.into_directory.ensures c.in_ok-world.ensures
    (rw c.items.ensures at c.in_ok-grid.ensures.hands) key c.in-Ok.ensures.going c.in-Ok.ensures.directory c.in-Ok.ensures.faulty c.in-Ok.ensures.hands

pub returns-clause-err : goal.returns-clause-err
returns-clause-err g c =
    let plan = c.args.plan in
    let d = c.into_directory.result in
    let nodes = nodes_of c.in_ok-grid.grid in
    own_fault agreeing.rule_of executing.rule_of filtering.rule_of asking.rule_of plan d nodes c.in_ok-world.world c.run.new.self.seen.trace c.in-Err.fault
    (subst (λ (x : PlainDeal). IsDirectoryOf x.origin d) c.requires.deal c.into_directory.ensures)
    (goes agreeing.rule_of executing.rule_of filtering.rule_of asking.rule_of c.args.deal plan d nodes c.requires.deal (λ seat h. (rw c.items.ensures at c.in_ok-grid.ensures.rules) d seat h c.into_directory.ensures.sizes))
    c.in_ok-world.ensures c.in-Err.ensures.fault
