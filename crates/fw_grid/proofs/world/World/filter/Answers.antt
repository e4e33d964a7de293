-- The node stands at its seat's place.
use Rattle.std.proofs.Common.{◌≡◌, ◌∙◌, List, IsTrue, false, ap, sym, subst, slice_get}
use Rattle.std.specs.Prelude.{IfSome, IfNone}
use Rattle.fw_base.specs.declared.seat.Seat.TheVariants as seats
use Rattle.fw_step.specs.Fitting.{is_correct}
use Rattle.fw_fair.specs.Correct.{place_of}
use Rattle.fw_grid.specs.Staged.{IsNodeOf}
use Rattle.fw_grid.proofs.Finding.{node_found, node_missing}
use Rattle.fw_grid.proofs.world.World.filter.Goals as goal

pub returns-clause-found : goal.returns-clause-found
returns-clause-found g c =
    let m = c.self.inside.machine in
    let is = rw (← c.self.view_is) at c.in_ok-place.ensures.found in
    subst (λ v. IfSome c.at.result (λ node. IsNodeOf g.F.Node.params g.F.Node.own g.F.Node.stands_for g.F.Node.is_stopped v.seen.directory v.seen.faulty v.seen.trace.log (seats.Filter c.args.row c.args.column) node.now)) c.self.view_is
    (node_found g.F.Node.params g.F.Node.own g.F.Node.stands_for g.F.Node.is_stopped m.directory m.faulty m.trace.log c.grid.result.now.filters (seats.Filter c.args.row c.args.column) c.in_ok-place.place c.at.result c.at.ensures is c.grid.ensures.seated.filters c.grid.ensures.standing.filters)

pub returns-clause-none : goal.returns-clause-none
returns-clause-none g c =
    let m = c.self.inside.machine in
    let is = rw (← c.self.view_is) at c.in_ok-place.ensures.found in
    subst (λ v. IfNone c.at.result (is_correct v.seen.directory.params v.seen.faulty (seats.Filter c.args.row c.args.column) ≡ false)) c.self.view_is
    (node_missing g.F.Node.params g.F.Node.own m.directory.params m.faulty c.grid.result.now.filters (seats.Filter c.args.row c.args.column) c.in_ok-place.place c.at.result c.at.ensures is c.grid.ensures.seated.filters)
