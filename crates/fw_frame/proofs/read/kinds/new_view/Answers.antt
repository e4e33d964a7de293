use Rattle.fw_wire.proofs.Reading.{via, via_none}
use Rattle.fw_wire.proofs.Fields.{no_first, no_second, no_second_of, both, both_of}
use Rattle.fw_frame.proofs.FrameFields.{new_view_same, new_view_rest}
use Rattle.fw_frame.proofs.read.kinds.new_view.Goals as goal

pub returns-in_default-2-clause-found : goal.returns-in_default-2-clause-found
returns-in_default-2-clause-found c =
    via_none (new_view_same c.args.params.now) (no_second_of (new_view_rest c.args.params.now) c.in-Some.ensures (no_first _ _ (rw c.in_default-2.is at c.in_ok-changes.ensures.found)))

pub returns-in_default-part-clause-found : goal.returns-in_default-part-clause-found
returns-in_default-part-clause-found c =
    via_none (new_view_same c.args.params.now)
    (no_second_of (new_view_rest c.args.params.now) c.in-Some.ensures (no_second (rw c.in-Some-2.is at c.in_ok-changes.ensures.found) c.in_default-part.ensures))

pub returns-clause-found : goal.returns-clause-found
returns-clause-found c =
    via (new_view_same c.args.params.now) (both_of (new_view_rest c.args.params.now) c.in-Some.ensures (both (rw c.in-Some-2.is at c.in_ok-changes.ensures.found) c.in-Some-part.ensures))
