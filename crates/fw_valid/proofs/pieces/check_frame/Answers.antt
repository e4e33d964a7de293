use Rattle.std.proofs.Common.{sym, subst, arith, [], ◌∷◌}
use Rattle.fw_text.specs.Texts.{hash}
use Rattle.fw_frame.specs.declared.frame.Frame.{Frame}
use Rattle.fw_frame.specs.Plain.{plain, plain_request, plain_change}
use Rattle.fw_frame.specs.Parts.{pieces, request_piece, change_pieces}
use Rattle.fw_valid.specs.Checks.{Checks}
use Rattle.fw_valid.proofs.Joining.{checks_within}
use Rattle.fw_valid.proofs.pieces.check_frame.Goals as goal

pub returns-in-Request : goal.returns-in-Request
returns-in-Request g c =
    let checks = checks_within c.args.directory.now 257 260 c.check_request.result c.args.steps.now c.check_request.new.steps (request_piece (plain_request c.in-Request.request) ∷ []) (omega arith) c.check_request.ensures in
    subst (λ (frame : Frame). Checks c.args.directory.now 260 c.check_request.result c.args.steps.now c.check_request.new.steps (pieces c.args.directory.now.params hash (plain frame))) (sym c.in-Request.is) checks

pub returns-in-Change : goal.returns-in-Change
returns-in-Change g c =
    let checks = checks_within c.args.directory.now 257 260 c.check_change.result c.args.steps.now c.check_change.new.steps (change_pieces hash (plain_change c.in-Change.change)) (omega arith) c.check_change.ensures in
    subst (λ (frame : Frame). Checks c.args.directory.now 260 c.check_change.result c.args.steps.now c.check_change.new.steps (pieces c.args.directory.now.params hash (plain frame))) (sym c.in-Change.is) checks
