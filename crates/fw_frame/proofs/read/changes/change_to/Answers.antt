use Rattle.fw_frame.specs.Plain.{plain_change}
use Rattle.fw_frame.proofs.Fields.{change_to_view}
use Rattle.fw_frame.proofs.read.changes.change_to.Goals as goal

pub returns-clause-found : goal.returns-clause-found
returns-clause-found c = change_to_view plain_change c.change.result c.args.params.now c.args.view c.args.least c.args.reader.now c.change.new.reader c.change.ensures.found
