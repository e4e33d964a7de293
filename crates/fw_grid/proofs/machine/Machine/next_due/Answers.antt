-- The first frame that is due.
use Rattle.std.proofs.Common.{ap, ◌∙◌}
use Rattle.fw_fair.specs.Hostile.{rules_among}
use Rattle.fw_trace.specs.Trace.{next_frame}
use Rattle.fw_grid.specs.Nodes.{rule_of}
use Rattle.fw_grid.specs.GridNodes.{nodes_of}
use Rattle.fw_grid.proofs.machine.Machine.next_due.Goals as goal

pub returns-clause-next : goal.returns-clause-next
returns-clause-next g c =
    let rule = rule_of g.A.Node.rule g.E.Node.rule g.F.Node.rule g.C.Node.rule (nodes_of c.self.inside.grid) c.self.inside.directory c.self.inside.pool.faulty in
    let t = c.self.inside.pool.trace in
    rw (← c.self.view_is) (c.next_due.ensures.next rule ∙ ap (λ p. next_frame (rules_among p c.self.inside.pool.faulty rule) t.log 0 t.pool) c.self.invariant.same)
