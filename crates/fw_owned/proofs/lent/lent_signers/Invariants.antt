use Rattle.std.proofs.Common.{◌≡◌, map, take, length}
use Rattle.fw_frame.specs.Plain.{plain_signer}
use Rattle.fw_frame.specs.View.{viewed_signer}
use Rattle.fw_owned.specs.Pieces.{signer_of}
use Rattle.fw_owned.proofs.lent.lent_signers.Given as goal

abbrev pub invariant-loop-signer : goal.invariant-loop-signer
invariant-loop-signer l = record {
  same : map viewed_signer (map plain_signer l.lent) ≡ map signer_of (take l.signer-index l.signers);
  len : length l.lent ≡ l.signer-index;
}
