use Rattle.fw_wire.proofs.Reading.{via, via_none}
use Rattle.fw_wire.proofs.Fields.{no_first, no_second, no_second_of, both, both_of}
use Rattle.fw_frame.proofs.Fields.{change_same, change_rest}
use Rattle.fw_frame.proofs.read.changes.change.Goals as goal

pub returns-in_default-2-clause-found : goal.returns-in_default-2-clause-found
returns-in_default-2-clause-found c =
    via_none (change_same c.args.params.now c.args.low c.args.high c.args.least c.requires.low c.requires.high)
    (no_second_of (change_rest c.args.params.now c.args.least) c.in-Some.ensures (no_second c.in-Some-node.ensures (no_first _ _ (rw c.in_default-2.is at c.in_ok-proofs.ensures.found))))

pub returns-in_default-part-clause-found : goal.returns-in_default-part-clause-found
returns-in_default-part-clause-found c =
    via_none (change_same c.args.params.now c.args.low c.args.high c.args.least c.requires.low c.requires.high)
    (no_second_of (change_rest c.args.params.now c.args.least) c.in-Some.ensures (no_second c.in-Some-node.ensures (no_second (rw c.in-Some-2.is at c.in_ok-proofs.ensures.found) c.in_default-part.ensures)))

pub returns-clause-found : goal.returns-clause-found
returns-clause-found c =
    via (change_same c.args.params.now c.args.low c.args.high c.args.least c.requires.low c.requires.high)
    (both_of (change_rest c.args.params.now c.args.least) c.in-Some.ensures (both c.in-Some-node.ensures (both (rw c.in-Some-2.is at c.in_ok-proofs.ensures.found) c.in-Some-part.ensures)))
