use Rattle.fw_wire.proofs.Reading.{via, via_none}
use Rattle.fw_frame.proofs.FrameFields.{change_frame_same}
use Rattle.fw_frame.proofs.read.kinds.change.Goals as goal

pub returns-in_default-clause-found : goal.returns-in_default-clause-found
returns-in_default-clause-found c = via_none (change_frame_same c.args.params.now) (rw c.in_default.is at c.in_ok-change.ensures.found)

pub returns-clause-found : goal.returns-clause-found
returns-clause-found c = via (change_frame_same c.args.params.now) (rw c.in-Some.is at c.in_ok-change.ensures.found)
