use Rattle.fw_frame.specs.Plain.{plain}
use Rattle.fw_wire.proofs.Reading.{via, via_none, none_is}
use Rattle.fw_wire.proofs.Fields.{no_first, no_second, both}
use Rattle.fw_frame.proofs.FrameFields.{propose_same}
use Rattle.fw_frame.proofs.read.kinds.propose.Goals as goal

pub returns-in_err-view : goal.returns-in_err-view
returns-in_err-view c = none_is plain c.from_residual.ensures (via_none (propose_same c.args.params.now) (no_first _ _ c.in_err-view.ensures))

pub returns-in_err-number : goal.returns-in_err-number
returns-in_err-number c = none_is plain c.from_residual-in_err-number.ensures (via_none (propose_same c.args.params.now) (no_second c.in_ok-view.ensures (no_first _ _ c.in_err-number.ensures)))

pub returns-in_err-entry : goal.returns-in_err-entry
returns-in_err-entry c = none_is plain c.from_residual-in_err-entry.ensures (via_none (propose_same c.args.params.now) (no_second c.in_ok-view.ensures (no_second c.in_ok-number.ensures (no_first _ _ c.in_err-entry.ensures))))

pub returns-in_err-sig : goal.returns-in_err-sig
returns-in_err-sig c = none_is plain c.from_residual-in_err-sig.ensures (via_none (propose_same c.args.params.now) (no_second c.in_ok-view.ensures (no_second c.in_ok-number.ensures (no_second c.in_ok-entry.ensures c.in_err-sig.ensures))))

pub returns : goal.returns
returns c = via (propose_same c.args.params.now) (both c.in_ok-view.ensures (both c.in_ok-number.ensures (both c.in_ok-entry.ensures c.in_ok-sig.ensures)))
