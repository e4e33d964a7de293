use Rattle.std.proofs.Common.{◌≡◌, length, map}
use Rattle.fw_frame.specs.Plain.{plain_signer}
use Rattle.fw_frame.specs.Ranges.{signer_fits}
use Rattle.fw_frame.specs.Spelling.{signer_bytes}
use Rattle.fw_frame.proofs.Lists.{SoFar}
use Rattle.fw_frame.proofs.read.signers.signer_list.Given as goal

abbrev pub invariant-loop : goal.invariant-loop
invariant-loop l = record {
  count : length l.signers ≡ l.counter;
  so_far : SoFar signer_bytes (λ s. s.agree) (signer_fits l.params) 0 l.count l.fn.reader l.least (map plain_signer l.signers) l.reader;
}
