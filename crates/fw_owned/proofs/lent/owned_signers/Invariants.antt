use Rattle.std.proofs.Common.{◌≡◌, map, take, length}
use Rattle.fw_frame.specs.Plain.{plain_signer}
use Rattle.fw_frame.specs.View.{viewed_signer}
use Rattle.fw_owned.specs.Pieces.{signer_of}
use Rattle.fw_owned.proofs.lent.owned_signers.Given as goal

abbrev pub invariant-loop-signer : goal.invariant-loop-signer
invariant-loop-signer l = record {
  same : map signer_of l.copy ≡ map viewed_signer (map plain_signer (take l.signer-index l.signers));
  len : length l.copy ≡ l.signer-index;
}
