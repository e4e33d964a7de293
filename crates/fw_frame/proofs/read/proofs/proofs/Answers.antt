use Rattle.std.proofs.Common.{map}
use Rattle.fw_frame.specs.Plain.{plain_proof}
use Rattle.fw_frame.proofs.Fields.{proofs_counted}
use Rattle.fw_frame.proofs.read.proofs.proofs.Goals as goal

pub returns-clause-found : goal.returns-clause-found
returns-clause-found c = proofs_counted (map plain_proof) c.proof_list.result c.args.params.now c.args.view c.in-Some.count c.args.reader.now c.at_most.new.reader c.proof_list.new.reader c.in-Some.ensures c.proof_list.ensures.found
