-- What holds while the loop of `append_below` runs.
use Rattle.std.proofs.Common.{◌≡◌, ◌++◌, drop}
use Rattle.std.specs.Prelude.{filter, nat_lt}
use Rattle.fw_store.proofs.change.append_below.Given as goal

abbrev pub invariant-loop-reader : goal.invariant-loop-reader
invariant-loop-reader l = l.all ++ filter (λ c. nat_lt c l.client) (drop l.reader-index l.readers) ≡ l.fn.all ++ filter (λ c. nat_lt c l.client) l.readers
