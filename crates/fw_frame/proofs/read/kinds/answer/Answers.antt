use Rattle.std.proofs.Common.{arith, sym}
use Rattle.std.proofs.lemmas.Bool.{ltb-true}
use Rattle.fw_wire.proofs.Reading.{kept}
use Rattle.fw_wire.proofs.Fields.{both}
use Rattle.fw_frame.proofs.FrameFields.{answer_from, answer_to}
use Rattle.fw_frame.proofs.read.kinds.answer.Goals as goal

pub returns : goal.returns
returns c =
    let triple = both c.in_ok-client.ensures (both c.in_ok-stamp.ensures c.in_ok-body.ensures) in
    let some = ltb-true c.in_ok-client.client c.args.params.now.clients c.in_ok-client.ensures.read.1 in
    kept (answer_from c.args.params.now (omega (arith, some))) (answer_to c.args.params.now (c.in_ok-client.client, (c.in_ok-stamp.stamp, c.in_ok-body.body.now)) triple.read.1 (sym c.if-not-is_whole.ensures)) triple
