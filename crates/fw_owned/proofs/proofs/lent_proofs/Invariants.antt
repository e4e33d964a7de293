use Rattle.std.proofs.Common.{◌≡◌, map, take, length, All}
use Rattle.fw_frame.specs.Plain.{plain_proof}
use Rattle.fw_frame.specs.View.{viewed_proof}
use Rattle.fw_frame.specs.Writing.{IsWritableProof}
use Rattle.fw_owned.specs.Pieces.{proof_of}
use Rattle.fw_owned.proofs.proofs.lent_proofs.Given as goal

abbrev pub invariant-loop-proof : goal.invariant-loop-proof
invariant-loop-proof l = record {
  same : map viewed_proof (map plain_proof l.lent) ≡ map proof_of (take l.proof-index l.proofs);
  len : length l.lent ≡ l.proof-index;
  writable : All IsWritableProof l.lent;
}
