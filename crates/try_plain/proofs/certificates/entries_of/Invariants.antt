-- There is an entry for each number so far, and they are the deployment's.
use Rattle.std.proofs.Common.{◌≡◌, length, map, IsTrue}
use Rattle.std.specs.List.{list_all}
use Rattle.fw_frame.specs.Plain.{plain_entry}
use Rattle.fw_frame.specs.Ranges.{entry_fits}
use Rattle.try_plain.proofs.certificates.entries_of.Given as goal

abbrev pub invariant-loop-k : goal.invariant-loop-k
invariant-loop-k l = record {
  few : length l.entries ≡ l.k;
  fit : IsTrue (list_all (entry_fits l.params) (map plain_entry l.entries));
}
