-- What holds while the loop of `names` runs.
use Rattle.std.proofs.Common.{◌≡◌, ◌-◌, ◌≤◌, ◌++◌, length, map, take, drop}
use Rattle.fw_store.specs.Store.{visible, name_of}
use Rattle.fw_store.proofs.view.names.Given as goal

-- the names so far, and then as many of the rest as there is room for
abbrev pub invariant-loop-owned : goal.invariant-loop-owned
invariant-loop-owned l = record {
  few : length l.names ≤ 24;
  told : l.names ++ take (24 - length l.names) (map name_of (visible l.client (drop l.owned-index l.records))) ≡ take 24 (map name_of (visible l.client l.records));
}
