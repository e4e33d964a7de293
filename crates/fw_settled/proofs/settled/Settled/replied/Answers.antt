-- The queue has the replies that are held.
use Rattle.std.proofs.Common.{◌≡◌, reverse, sym, ◌∙◌}
use Rattle.fw_settled.proofs.Queueing.{replied_is}
use Rattle.fw_settled.proofs.settled.Settled.replied.Goals as goal

pub returns : goal.returns
returns c =
    let s = c.self.inside in
    rw (sym c.self.view_is) (c.replied.ensures ∙ replied_is s.queue (reverse s.committed.items) (reverse s.held.items) c.self.invariant.1)
