-- An operation of a schedule can be asked; and a flush that fails delivered some frames.
use Rattle.std.proofs.Common.{◌≡◌, ◌≤◌, ℕ, Ok, IsTrue, subst}
use Rattle.std.proofs.lemmas.Bool.{and_parts}
use Rattle.fw_base.specs.declared.seat.Seat.TheVariants as seats
use Rattle.fw_base.specs.Sizes.{accepted}
use Rattle.fw_op.specs.Ops.{op_fits}
use Rattle.fw_step.specs.Fitting.{is_correct}
use Rattle.fw_trace.specs.Run.{flushes}
use Rattle.fw_grid.specs.Seen.{world_of}
use Rattle.fw_grid.proofs.Running.{on_err, front_flush}
use Rattle.fw_grid.proofs.Asking.{op_more, few_clients}
use Rattle.fw_grid.proofs.machine.Machine.step.Goals as goal

pub take-requires-clause-come : goal.take-requires-clause-come
take-requires-clause-come g c =
    let p = c.args.self.now.directory.params in
    let sizes : IsTrue (accepted p) = subst (λ v. IsTrue (accepted v.directory.params)) c.self.view_is c.self.invariant.sizes in
    let fit = rw c.in-Submit.is at c.requires.fit in
    op_more p.clients c.in-Submit.op (few_clients p sizes) (and_parts (is_correct p c.args.self.now.faulty (seats.Client c.in-Submit.client)) (op_fits p.clients c.in-Submit.op) fit).1

pub returns-in-Flush-clause-front : goal.returns-in-Flush-clause-front
returns-in-Flush-clause-front g c =
    let old = c.args.self.now in
    let w = world_of g.A.Node.rule g.E.Node.rule g.F.Node.rule g.C.Node.rule old in
    on_err c.flush.result ((fewer : ℕ) × (fewer ≤ c.in-Flush.most) × (flushes w fewer old.trace ≡ Ok c.flush.new.self.trace)) _
    (λ some rest. rw c.in-Flush.is (front_flush w old.trace c.flush.new.self.trace c.in-Flush.most some.0 rest some.1 some.2)) c.flush.ensures.front
