-- The queue has the replies that are held, and what has gone up.
use Rattle.std.proofs.Common.{reverse, sym, ◌∙◌}
use Rattle.fw_settled.proofs.Queueing.{again_is}
use Rattle.fw_settled.proofs.settled.Settled.again.Goals as goal

pub returns : goal.returns
returns c =
    let s = c.self.inside in
    rw (sym c.self.view_is) (c.again.ensures ∙ again_is s.queue (reverse s.committed.items) (reverse s.held.items) c.self.invariant.1)
