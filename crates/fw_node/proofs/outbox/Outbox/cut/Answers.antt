-- The first so many of the frames.
use Rattle.std.proofs.Common.{sym}
use Rattle.std.specs.List.{take-map}
use Rattle.fw_node.specs.Histories.{out_of}
use Rattle.fw_node.proofs.outbox.Outbox.cut.Goals as goal

pub returns : goal.returns
returns c = rw c.truncate.ensures.items (rw (sym c.self.view_is) (sym (take-map out_of c.args.len c.self.inside.sent.items)))
