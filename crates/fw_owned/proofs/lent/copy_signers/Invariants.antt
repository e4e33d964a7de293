use Rattle.std.proofs.Common.{◌≡◌, take, length}
use Rattle.fw_owned.proofs.lent.copy_signers.Given as goal

abbrev pub invariant-loop-signer : goal.invariant-loop-signer
invariant-loop-signer l = record {
  same : l.copy ≡ take l.signer-index l.signers;
  len : length l.copy ≡ l.signer-index;
}
