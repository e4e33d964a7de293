-- What is looked for in the list is what is looked up for each view.
use Rattle.std.proofs.Common.{ap, sym, ◌∙◌}
use Rattle.fw_view.specs.Counted.{sent_for}
use Rattle.fw_view.proofs.Frames.{counted}
use Rattle.fw_view.proofs.Senders.{sent}
use Rattle.fw_view.proofs.changes.Changes.sent_for.Goals as goal

pub returns : goal.returns
returns c =
    rw (sym c.self.view_is)
    (c.has_sent.ensures
    ∙ sent c.self.inside.params c.items.result.now c.args.view c.args.agree (rw c.items.ensures c.self.invariant.1)
    ∙ ap (λ l. sent_for (counted c.self.inside.params l) c.args.view c.args.agree) c.items.ensures)
