use Rattle.fw_wire.proofs.Reading.{via, via_none}
use Rattle.fw_wire.proofs.Fields.{no_first, no_second, both}
use Rattle.fw_frame.proofs.FrameFields.{agreed_same}
use Rattle.fw_frame.proofs.read.kinds.agreed.Goals as goal

pub returns-in_default-entry-clause-found : goal.returns-in_default-entry-clause-found
returns-in_default-entry-clause-found c = via_none (agreed_same c.args.params.now) (no_second c.in-Some.ensures (no_second c.in-Some-number.ensures (no_first _ _ c.in_default-entry.ensures)))

pub returns-in_default-2-clause-found : goal.returns-in_default-2-clause-found
returns-in_default-2-clause-found c =
    via_none (agreed_same c.args.params.now) (no_second c.in-Some.ensures (no_second c.in-Some-number.ensures (no_second c.in-Some-entry.ensures (rw c.in_default-2.is at c.in_ok-signers.ensures.found))))

pub returns-clause-found : goal.returns-clause-found
returns-clause-found c =
    via (agreed_same c.args.params.now) (both c.in-Some.ensures (both c.in-Some-number.ensures (both c.in-Some-entry.ensures (rw c.in-Some-2.is at c.in_ok-signers.ensures.found))))
