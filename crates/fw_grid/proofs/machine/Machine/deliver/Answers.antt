-- What can't be delivered changes nothing.
use Rattle.std.proofs.Common.{◌≡◌, List, ap, ap₂, sym, ◌∙◌, true, false, slice_get}
use Rattle.fw_base.specs.declared.params.Params.{Params}
use Rattle.fw_base.specs.declared.seat.Seat.{Seat}
use Rattle.fw_pool.specs.Notes.{Frames}
use Rattle.fw_grid.specs.Seen.{rule_in}
use Rattle.fw_grid.specs.Schedule.{can_deliver}
use Rattle.fw_grid.proofs.Events.{nothing_happens, can_come}
use Rattle.fw_grid.proofs.machine.Machine.deliver.Goals as goal

pub returns-then-not-can_deliver-clause-ok : goal.returns-then-not-can_deliver-clause-ok
returns-then-not-can_deliver-clause-ok g c =
    let w = c.args.self.now in
    let none : can_deliver w.directory.params w.faulty (slice_get w.trace.pool c.args.place) ≡ false =
    ap (λ v. can_deliver v.directory.params v.faulty (slice_get v.trace.pool c.args.place)) (sym c.self.view_is)
    ∙ sym (ap₂ (λ (p : Params) (f : Frames). can_deliver p c.faulty.result.now (slice_get f c.args.place)) c.params.ensures.same c.frames.ensures.frames
    ∙ ap (λ (l : List Seat). can_deliver c.self.inside.directory.params l (slice_get c.self.inside.pool.trace.pool c.args.place)) c.faulty.ensures) ∙ sym c.can_deliver.ensures ∙ c.if-not-can_deliver.true in
    nothing_happens w.directory.params w.faulty (rule_in g.A.Node.rule g.E.Node.rule g.F.Node.rule g.C.Node.rule w) w.trace c.args.place none

pub take-requires-clause-come : goal.take-requires-clause-come
take-requires-clause-come g c =
    let w = c.args.self.now in
    let some : can_deliver w.directory.params w.faulty (slice_get w.trace.pool c.args.place) ≡ true =
    ap (λ v. can_deliver v.directory.params v.faulty (slice_get v.trace.pool c.args.place)) (sym c.self.view_is)
    ∙ sym (ap₂ (λ (p : Params) (f : Frames). can_deliver p c.faulty.result.now (slice_get f c.args.place)) c.params.ensures.same c.frames.ensures.frames
    ∙ ap (λ (l : List Seat). can_deliver c.self.inside.directory.params l (slice_get c.self.inside.pool.trace.pool c.args.place)) c.faulty.ensures) ∙ sym c.can_deliver.ensures ∙ c.if-not-can_deliver.false in
    (can_come w.directory.params w.faulty w.trace.pool c.args.place some).0
