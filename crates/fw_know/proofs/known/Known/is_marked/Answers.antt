-- The mark of the place.
use Rattle.std.proofs.Common.{sym}
use Rattle.fw_know.proofs.known.Known.is_marked.Goals as goal

pub returns : goal.returns
returns c = rw (sym c.self.view_is) c.is_set.ensures
