use Rattle.fw_frame.specs.Plain.{plain}
use Rattle.fw_wire.proofs.Reading.{via, via_none, none_is}
use Rattle.fw_wire.proofs.Fields.{no_first, no_second, both}
use Rattle.fw_frame.proofs.FrameFields.{reply_same}
use Rattle.fw_frame.proofs.read.kinds.reply.Goals as goal

pub returns-in_err-number : goal.returns-in_err-number
returns-in_err-number c = none_is plain c.from_residual.ensures (via_none (reply_same c.args.params.now) (no_first _ _ c.in_err-number.ensures))

pub returns-in_err-to : goal.returns-in_err-to
returns-in_err-to c = none_is plain c.from_residual-in_err-to.ensures (via_none (reply_same c.args.params.now) (no_second c.in_ok-number.ensures (no_first _ _ c.in_err-to.ensures)))

pub returns-in_err-secrets : goal.returns-in_err-secrets
returns-in_err-secrets c = none_is plain c.from_residual-in_err-secrets.ensures (via_none (reply_same c.args.params.now) (no_second c.in_ok-number.ensures (no_second c.in_ok-to.ensures c.in_err-secrets.ensures)))

pub returns : goal.returns
returns c = via (reply_same c.args.params.now) (both c.in_ok-number.ensures (both c.in_ok-to.ensures c.in_ok-secrets.ensures))
