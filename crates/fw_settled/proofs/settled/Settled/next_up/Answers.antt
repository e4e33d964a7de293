-- The queue has what is agreed.
use Rattle.std.proofs.Common.{◌≡◌, reverse, sym, ◌∙◌}
use Rattle.fw_settled.proofs.Queueing.{ready_is}
use Rattle.fw_settled.proofs.settled.Settled.next_up.Goals as goal

pub returns : goal.returns
returns c =
    let s = c.self.inside in
    rw (sym c.self.view_is) (c.ready.ensures ∙ ready_is s.queue (reverse s.committed.items) (reverse s.held.items) c.self.invariant.1)
