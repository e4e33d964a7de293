use Rattle.std.proofs.Common.{◌≡◌, ◌≤◌, length, map}
use Rattle.fw_frame.specs.Plain.{plain_proof}
use Rattle.fw_frame.specs.Ranges.{proof_fits}
use Rattle.fw_frame.specs.Spelling.{proof_bytes}
use Rattle.fw_frame.proofs.Lists.{SoFar}
use Rattle.fw_frame.proofs.read.proofs.proof_list.Given as goal

abbrev pub invariant-loop : goal.invariant-loop
invariant-loop l = record {
  count : length l.proofs ≡ l.counter;
  least : 1 ≤ l.least;
  so_far : SoFar proof_bytes (λ q. q.number) (proof_fits l.params l.view) 1 l.count l.fn.reader l.least (map plain_proof l.proofs) l.reader;
}
