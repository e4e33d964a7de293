use Rattle.std.proofs.Common.{map}
use Rattle.fw_frame.specs.Plain.{plain_change}
use Rattle.fw_frame.proofs.Fields.{changes_counted}
use Rattle.fw_frame.proofs.read.changes.changes.Goals as goal

pub returns-clause-found : goal.returns-clause-found
returns-clause-found c =
    changes_counted (map plain_change) c.change_list.result c.args.params.now c.args.view c.in-Some.count c.quorum-quorum.result c.args.reader.now c.number.new.reader c.change_list.new.reader
    c.quorum-quorum.ensures c.in-Some.ensures c.change_list.ensures.found
