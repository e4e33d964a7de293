-- The request can be opened.
use Rattle.fw_seen.proofs.Told.{openable_request}
use Rattle.fw_seen.proofs.agreed.agreed_line.Goals as goal

pub said-requires-clause-stamp : goal.said-requires-clause-stamp
said-requires-clause-stamp c = (openable_request c.args.entry.now c.in-Request.request c.in-Request.is c.requires).0

pub said-requires-clause-body : goal.said-requires-clause-body
said-requires-clause-body c = (openable_request c.args.entry.now c.in-Request.request c.in-Request.is c.requires).1
