use Rattle.std.proofs.Common.{refl, subst, true, false, [], ◌∷◌, map, List, ℕ}
use Rattle.fw_text.specs.Texts.{hash}
use Rattle.fw_frame.specs.Plain.{plain_entry, plain_signer}
use Rattle.fw_frame.specs.Parts.{entry_digest, entry_piece, signer_pieces}
use Rattle.fw_valid.specs.Checks.{Checks}
use Rattle.fw_valid.proofs.Joining.{checks_more, checks_stop}
use Rattle.fw_valid.proofs.pieces.check_entry_votes.Goals as goal

pub returns-then-not-check_entry : goal.returns-then-not-check_entry
returns-then-not-check_entry g c =
    checks_stop c.args.directory.now 257 false c.args.steps.now c.check_entry.new.steps (entry_piece (plain_entry c.args.entry.now) ∷ []) (signer_pieces c.args.phase c.args.view c.args.number (entry_digest hash (plain_entry c.args.entry.now)) (map plain_signer c.args.signers.now)) refl c.if-not-check_entry.ensures

pub returns : goal.returns
returns g c =
    let votes = signer_pieces c.args.phase c.args.view c.args.number (entry_digest hash (plain_entry c.args.entry.now)) (map plain_signer c.args.signers.now) in
    let same = subst (λ (digest : List ℕ). Checks c.args.directory.now 257 c.check_votes.result c.check_entry.new.steps c.check_votes.new.steps (signer_pieces c.args.phase c.args.view c.args.number digest (map plain_signer c.args.signers.now))) c.entry_digest-digest.ensures c.check_votes.ensures in
    checks_more c.args.directory.now 257 true c.check_votes.result c.args.steps.now c.check_entry.new.steps c.check_votes.new.steps (entry_piece (plain_entry c.args.entry.now) ∷ []) votes refl c.if-not-check_entry.ensures same
