-- What holds while the loop of `view` runs.
use Rattle.std.proofs.Common.{◌≡◌, ◌++◌, drop}
use Rattle.fw_store.specs.Store.{visible}
use Rattle.fw_store.proofs.view.view.Given as goal

-- the view so far, and then that of the rest
abbrev pub invariant-loop-owned : goal.invariant-loop-owned
invariant-loop-owned l = l.view ++ visible l.client (drop l.owned-index l.records) ≡ visible l.client l.records
