-- The counts tell the fault.
use Rattle.std.proofs.Common.{◌≡◌, ◌∙◌, length, arith}
use Rattle.fw_pool.proofs.Roomy.{fault_counted}
use Rattle.fw_pool.proofs.pool.Pool.over.Goals as goal

pub returns : goal.returns
returns c = λ seat.
    let count : c.len.result ≡ length c.self.inside.frames.items = omega arith in
    rw (← c.self.view_is) (c.err.ensures.value
    ∙ fault_counted seat c.self.inside.frames.items c.args.out.now _ c.len.result c.self.inside.bytes c.room.result count c.self.invariant.sum c.sent.ensures c.room.ensures)
