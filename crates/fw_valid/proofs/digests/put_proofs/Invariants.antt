use Rattle.std.proofs.Common.{◌≡◌, ◌*◌, length, take, map}
use Rattle.std.specs.List.{flat_map}
use Rattle.fw_text.specs.Texts.{hash, listed_bytes}
use Rattle.fw_frame.specs.Plain.{plain_proof}
use Rattle.fw_frame.specs.Parts.{listed}
use Rattle.fw_valid.proofs.digests.put_proofs.Given as goal

-- what is said of the proofs so far was written
abbrev pub invariant-loop-proof : goal.invariant-loop-proof
invariant-loop-proof l = record {
  len : length l.out ≡ length l.fn.out;
  at : l.at ≡ 40 * l.proof-index;
  written : take l.at l.out ≡ flat_map listed_bytes (map (listed hash) (map plain_proof (take l.proof-index l.proofs)));
}
