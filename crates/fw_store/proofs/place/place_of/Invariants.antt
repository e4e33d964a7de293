-- What holds while the loop of `place_of` runs.
use Rattle.std.proofs.Common.{◌≡◌, ◌-◌, ◌≤◌, true, length, take, drop}
use Rattle.std.specs.List.{list_all}
use Rattle.fw_store.proofs.Found.{is_below, is_above}
use Rattle.fw_store.proofs.place.place_of.Given as goal

-- those in front are below the name, and those behind above it
abbrev pub invariant-loop-low : goal.invariant-loop-low
invariant-loop-low l = record {
  met : l.low ≤ l.high;
  within : l.high ≤ length l.records;
  below : list_all (is_below (record { owner = l.owner; key = l.key })) (take l.low l.records) ≡ true;
  above : list_all (is_above (record { owner = l.owner; key = l.key })) (drop l.high l.records) ≡ true;
}

abbrev pub decreases-loop-low : goal.decreases-loop-low
decreases-loop-low l = l.high - l.low
