use Rattle.std.proofs.Common.{◌≡◌, ℕ, List, true, take, map}
use Rattle.fw_text.specs.Texts.{Voted, hash}
use Rattle.fw_frame.specs.Plain.{plain_signer}
use Rattle.fw_frame.specs.Parts.{signer_pieces}
use Rattle.fw_valid.specs.Checks.{Checks}
use Rattle.fw_valid.proofs.pieces.check_signers.Given as goal

-- the signatures so far are valid
abbrev pub invariant-loop-signer : goal.invariant-loop-signer
invariant-loop-signer g l =
    (entry : List ℕ) → l.fn.digest ≡ hash (Voted l.phase l.view l.number entry) → Checks l.directory 256 true l.fn.steps l.steps (signer_pieces l.phase l.view l.number entry (map plain_signer (take l.signer-index l.signers)))
