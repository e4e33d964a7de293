-- The entries so far are not too many, and are the deployment's.
use Rattle.std.proofs.Common.{◌≤◌, length, map, IsTrue}
use Rattle.std.specs.List.{list_all}
use Rattle.fw_frame.specs.Plain.{plain_entry}
use Rattle.fw_frame.specs.Ranges.{entry_fits}
use Rattle.try_nodes.proofs.entries.entries_of.Given as goal

abbrev pub invariant-loop-bytes : goal.invariant-loop-bytes
invariant-loop-bytes l = record {
  few : length l.entries ≤ l.params.numbers;
  fit : IsTrue (list_all (entry_fits l.params) (map plain_entry l.entries));
}
