use Rattle.std.proofs.Common.{◌<◌, length, map, arith}
use Rattle.fw_frame.specs.Plain.{plain_signer}
use Rattle.fw_frame.specs.Parts.{signer_pieces}
use Rattle.fw_valid.specs.Checks.{parts_in}
use Rattle.fw_valid.proofs.Joining.{checks_after_step, count-signers}
use Rattle.fw_valid.proofs.pieces.check_votes.Goals as goal

pub returns : goal.returns
returns g c =
    let pieces = signer_pieces c.args.phase c.args.view c.args.number c.args.entry.now (map plain_signer c.args.signers.now) in
    let count = count-signers c.args.phase c.args.view c.args.number c.args.entry.now (map plain_signer c.args.signers.now) in
    let some : 0 < length (parts_in pieces) = omega (arith, count, c.requires.some) in
    checks_after_step c.args.directory.now c.check_signers.result c.args.steps.now c.vote_digest-digest.new.steps c.check_signers.new.steps pieces c.vote_digest-digest.ensures.step some (c.check_signers.ensures c.args.entry.now c.vote_digest-digest.ensures.digest)
