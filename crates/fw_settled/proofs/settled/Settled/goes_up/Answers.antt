-- The number is ready in the queue.
use Rattle.std.proofs.Common.{◌≡◌, reverse, sym, ◌∙◌}
use Rattle.fw_settled.proofs.Queueing.{ready_is}
use Rattle.fw_settled.proofs.settled.Settled.goes_up.Goals as goal

pub gone-requires : goal.gone-requires
gone-requires c =
    let s = c.self.inside in
    ready_is s.queue (reverse s.committed.items) (reverse s.held.items) c.self.invariant.1 ∙ rw (sym c.self.view_is) at c.requires
