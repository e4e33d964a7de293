use Rattle.std.proofs.Common.{◌≡◌, take, length}
use Rattle.fw_owned.proofs.proofs.copy_proofs.Given as goal

abbrev pub invariant-loop-proof : goal.invariant-loop-proof
invariant-loop-proof l = record {
  same : l.copy ≡ take l.proof-index l.proofs;
  len : length l.copy ≡ l.proof-index;
}
