-- What holds while the loop of `are_distinct` runs.
use Rattle.std.proofs.Common.{◌≡◌, drop}
use Rattle.fw_store.specs.Store.{are_distinct}
use Rattle.fw_store.proofs.build.are_distinct.Given as goal

abbrev pub invariant-loop-k : goal.invariant-loop-k
invariant-loop-k l = are_distinct l.starts ≡ are_distinct (drop l.k l.starts)
