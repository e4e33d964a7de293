-- What holds while the loop of `in_order` runs.
use Rattle.std.proofs.Common.{◌≡◌, [], drop}
use Rattle.std.specs.Prelude.{fold}
use Rattle.fw_store.specs.Store.{with_added}
use Rattle.fw_store.proofs.Built.{IsBuilding}
use Rattle.fw_store.proofs.build.in_order.Given as goal

-- the records so far are in order, and the rest is still to be added
abbrev pub invariant-loop-start : goal.invariant-loop-start
invariant-loop-start l = record {
  building : IsBuilding l.records.items (drop l.start-index l.starts);
  done : fold with_added l.records.items (drop l.start-index l.starts) ≡ fold with_added [] l.starts;
}
