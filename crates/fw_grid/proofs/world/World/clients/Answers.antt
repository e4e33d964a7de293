-- Each client stands for the history of its seat.
use Rattle.std.proofs.Common.{ap, sym, subst}
use Rattle.fw_base.specs.declared.seat.Seat.TheVariants as seats
use Rattle.fw_trace.specs.Trace.{history}
use Rattle.fw_fair.specs.Correct.{correct_at}
use Rattle.fw_grid.specs.Nodes.{AreStanding}
use Rattle.fw_grid.proofs.world.World.clients.Goals as goal

pub returns-clause-standing : goal.returns-clause-standing
returns-clause-standing g c =
    rw c.items.ensures
    (subst (λ v. AreStanding g.C.Node.stands_for g.C.Node.is_stopped v.seen.directory (λ k. history (correct_at v.seen.faulty seats.Client v.seen.directory.params.clients k) v.seen.trace.log) c.grid.result.now.clients) c.self.view_is c.grid.ensures.standing.clients)
