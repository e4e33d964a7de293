use Rattle.std.specs.Prelude.{true, take, map, flat_map}
use Rattle.fw_text.specs.Texts.{hash}
use Rattle.fw_frame.specs.Plain.{plain_proof}
use Rattle.fw_frame.specs.Parts.{proof_pieces}
use Rattle.fw_valid.specs.Checks.{Checks}
use Rattle.fw_valid.proofs.pieces.check_proofs.Given as goal

-- the proofs so far are valid
abbrev pub invariant-loop-proof : goal.invariant-loop-proof
invariant-loop-proof g l = Checks l.directory 257 true l.fn.steps l.steps (flat_map (proof_pieces hash) (map plain_proof (take l.proof-index l.proofs)))
