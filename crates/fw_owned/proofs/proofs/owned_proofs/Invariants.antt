use Rattle.std.proofs.Common.{◌≡◌, map, take, length}
use Rattle.fw_frame.specs.Plain.{plain_proof}
use Rattle.fw_frame.specs.View.{viewed_proof}
use Rattle.fw_owned.specs.Pieces.{proof_of}
use Rattle.fw_owned.proofs.proofs.owned_proofs.Given as goal

abbrev pub invariant-loop-proof : goal.invariant-loop-proof
invariant-loop-proof l = record {
  same : map proof_of l.copy ≡ map viewed_proof (map plain_proof (take l.proof-index l.proofs));
  len : length l.copy ≡ l.proof-index;
}
