use Rattle.fw_wire.proofs.Reading.{via}
use Rattle.fw_wire.proofs.Fields.{both}
use Rattle.fw_frame.proofs.Fields.{proof_same}
use Rattle.fw_frame.proofs.read.proofs.proof.Goals as goal

pub returns-clause-found : goal.returns-clause-found
returns-clause-found c = via (proof_same c.args.params.now c.args.view c.args.least) (both c.in-Some.ensures (both c.in-Some-place.ensures (both c.in-Some-entry.ensures (rw c.in-Some-2.is at c.in_ok-signers.ensures.found))))
