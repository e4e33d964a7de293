-- What holds while the loop of `permitted` runs.
use Rattle.std.proofs.Common.{◌≡◌, ◌+◌, ◌≤◌, ◌++◌, length, map, drop}
use Rattle.fw_frame.specs.Plain.{plain_entry}
use Rattle.fw_ref.specs.Certificates.{permitted, certificates}
use Rattle.fw_ref.proofs.certificates.permitted.Given as goal

abbrev pub invariant-loop-entry : goal.invariant-loop-entry
invariant-loop-entry l = record {
  done : l.replica.done ≡ l.entry-index;
  few : length l.replica.reference.records ≤ 256 + l.entry-index;
  left : l.certs ++ certificates l.fn.deal.origin l.replica (map plain_entry (drop l.entry-index l.list)) ≡ permitted l.fn.deal.origin l.fn.starts (map plain_entry l.fn.list);
}
