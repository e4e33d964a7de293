-- What befalls a seat happens, or would send too much.
use Rattle.std.proofs.Common.{◌∙◌, ◌++◌, ◌∷◌, ap, sym}
use Rattle.fw_trace.specs.Trace.{history}
use Rattle.fw_node.specs.Histories.{Out}
use Rattle.fw_grid.specs.Nodes.{rule_of}
use Rattle.fw_grid.specs.GridNodes.{nodes_of}
use Rattle.fw_grid.specs.Causes.{logged_by}
use Rattle.fw_grid.specs.Seen.{histories}
use Rattle.fw_grid.proofs.Events.{event_ok, event_limit}
use Rattle.fw_grid.proofs.entering.take_in.Goals as goal

pub returns-in-Some-clause-limit : goal.returns-in-Some-clause-limit
returns-in-Some-clause-limit g c = λ stand.
    let t = c.args.pool.now.trace in
    let l = logged_by t.pool c.args.cause in
    let rule = rule_of g.A.Node.rule g.E.Node.rule g.F.Node.rule g.C.Node.rule (nodes_of c.args.grid.now) c.args.directory.now c.args.pool.now.faulty in
    let sent = c.in_ok-feed.ensures.sent (histories t.log) stand ∙ ap (λ (o : Out). o ++ rule l.seat (l.input ∷ history l.seat t.log)) c.new-out.ensures in
    event_limit c.args.directory.now.params c.args.pool.now.faulty rule t c.args.cause c.feed.new.out c.in-Some.which c.requires.come c.requires.seat sent (sym (c.over.ensures l.seat) ∙ c.in-Some.is)

pub returns-clause-stand : goal.returns-clause-stand
returns-clause-stand g c = λ stand. rw c.in_ok-log.ensures.ok (c.in_ok-feed.ensures.stand (histories c.args.pool.now.trace.log) stand)

pub returns-clause-ok : goal.returns-clause-ok
returns-clause-ok g c = λ stand.
    let t = c.args.pool.now.trace in
    let l = logged_by t.pool c.args.cause in
    let rule = rule_of g.A.Node.rule g.E.Node.rule g.F.Node.rule g.C.Node.rule (nodes_of c.args.grid.now) c.args.directory.now c.args.pool.now.faulty in
    let sent = c.in_ok-feed.ensures.sent (histories t.log) stand ∙ ap (λ (o : Out). o ++ rule l.seat (l.input ∷ history l.seat t.log)) c.new-out.ensures in
    event_ok c.args.directory.now.params c.args.pool.now.faulty rule t c.log.new.pool.trace c.args.cause c.feed.new.out c.requires.come c.requires.seat sent (sym (c.over.ensures l.seat) ∙ c.in_default.is) c.in_ok-log.ensures.ok
