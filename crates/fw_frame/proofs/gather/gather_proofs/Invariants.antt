use Rattle.std.specs.Prelude.{map, take, flat_map}
use Rattle.fw_text.specs.Texts.{hash}
use Rattle.fw_frame.specs.Plain.{plain_proof}
use Rattle.fw_frame.specs.Parts.{proof_pieces}
use Rattle.fw_frame.specs.Gathered.{Gathers}
use Rattle.fw_frame.proofs.gather.gather_proofs.Given as goal

-- the pieces of the proofs so far were gathered
abbrev pub invariant-loop-proof : goal.invariant-loop-proof
invariant-loop-proof l = Gathers l.fn.out l.out (flat_map (proof_pieces hash) (map plain_proof (take l.proof-index l.proofs)))
