-- A lie that may be sent has bytes, unless it is a copy.
use Rattle.fw_lies.proofs.Sending.{some_after}
use Rattle.fw_lies.proofs.lie.lie_bytes.Goals as goal

pub returns-clause-some : goal.returns-clause-some
returns-clause-some c = some_after c.args.deal.now.origin c.args.from c.args.lie.now _ c.requires.lie c.bytes_of.ensures
