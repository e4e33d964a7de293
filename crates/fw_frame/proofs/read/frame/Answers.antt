use Rattle.fw_frame.specs.Plain.{plain}
use Rattle.fw_frame.proofs.FrameFields.{ok_with_kind, no_kind}
use Rattle.fw_frame.proofs.read.frame.Goals as goal

pub returns-in_default-clause-found : goal.returns-in_default-clause-found
returns-in_default-clause-found c = no_kind c.args.params.now c.args.reader.now c.u8.new.self c.in_default.ensures.0

pub returns-clause-found : goal.returns-clause-found
returns-clause-found c = ok_with_kind plain c.of_kind.result c.args.params.now c.in-Some.kind c.args.reader.now c.u8.new.self c.of_kind.new.reader c.in-Some.ensures c.of_kind.ensures.found
