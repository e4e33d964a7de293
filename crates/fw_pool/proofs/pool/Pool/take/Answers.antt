-- What the pool keeps after an input.
use Rattle.std.proofs.Common.{◌≡◌, ◌∙◌, ◌++◌, ◌||◌, Bool, ap, ap₂, length, arith}
use Rattle.fw_base.specs.declared.seat.Seat.TheVariants as seats
use Rattle.fw_trace.specs.Trace.{from_seat, is_frame}
use Rattle.fw_node.specs.Histories.{Out}
use Rattle.fw_pool.specs.Notes.{Frames}
use Rattle.fw_pool.proofs.Roomy.{no_fault, room_counted}
use Rattle.fw_pool.proofs.Growing.{holds_more, log_more}
use Rattle.fw_pool.proofs.pool.Pool.take.Goals as goal

pub unreachable-requires : goal.unreachable-requires
unreachable-requires c =
    let count : c.len.result ≡ length c.self.inside.frames.items = omega arith in
    let room = rw (← c.self.view_is) at c.requires.room in
    no_fault (seats.Agree 0) c.self.inside.frames.items c.args.out.now _ c.len.result c.self.inside.bytes c.room.result c.in_default.field-0 count c.self.invariant.sum c.sent.ensures c.room.ensures (room (seats.Agree 0)) c.in_default.is

pub invariant_of-self-2 : goal.invariant_of-self-2
invariant_of-self-2 c =
    let count : c.len.result ≡ length c.self.inside.frames.items = omega arith in
    let frames : Frames = c.self.inside.frames.items in
    let more = from_seat c.args.from c.args.out.now in
    let within = rw (← c.self.view_is) at c.requires.within in
    let grown : c.extend.new.frames.items ≡ frames ++ more = c.in_ok-extend.ensures.frames ∙ ap (λ (o : Out). frames ++ from_seat c.args.from o) c.sent-2.ensures in
    let counts = room_counted c.args.from frames c.args.out.now _ c.len.result c.self.inside.bytes c.room.result c.in-Ok.bytes count c.self.invariant.sum c.sent.ensures c.room.ensures c.in-Ok.is c.self.invariant.few c.self.invariant.small in
    holds_more c.self.inside.params c.self.inside.faulty frames more c.extend.new.frames.items c.self.inside.marks.items c.mark.new.marks.items c.self.inside.log c.extend.new.log c.args.note c.self.inside.due c.self.inside.bytes c.in-Ok.bytes
    c.self.invariant within grown c.in_ok-extend.ensures.log (c.mark.ensures.count ∙ c.in_ok-extend.ensures.count)
    (λ k. c.mark.ensures.marked k ∙ ap₂ (λ (a b : Bool). a || b) (ap (is_frame k) c.place-place.ensures) (c.in_ok-extend.ensures.same k))
    counts.0 counts.1 counts.2

pub returns-clause-ok : goal.returns-clause-ok
returns-clause-ok c =
    let frames : Frames = c.self.inside.frames.items in
    let within = rw (← c.self.view_is) at c.requires.within in
    let from = rw (← c.self.view_is) at c.requires.from in
    let grown : c.extend.new.frames.items ≡ frames ++ from_seat c.args.from c.args.out.now = c.in_ok-extend.ensures.frames ∙ ap (λ (o : Out). frames ++ from_seat c.args.from o) c.sent-2.ensures in
    rw (← c.self.view_is) (ap₂ (λ pool log. record { pool = pool; log = log }) (grown ∙ ap (λ seat. frames ++ from_seat seat c.args.out.now) from)
    (log_more frames (from_seat c.args.from c.args.out.now) c.extend.new.frames.items c.self.inside.log c.extend.new.log c.args.note c.self.invariant.within within grown c.in_ok-extend.ensures.log))
