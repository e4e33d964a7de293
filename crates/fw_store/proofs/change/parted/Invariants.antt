-- What holds while the loop of `parted` runs.
use Rattle.std.proofs.Common.{◌≡◌, ◌++◌, not, drop}
use Rattle.std.specs.Prelude.{filter, nat_eq}
use Rattle.fw_store.proofs.change.parted.Given as goal

abbrev pub invariant-loop-reader : goal.invariant-loop-reader
invariant-loop-reader l = l.left ++ filter (λ c. not (nat_eq c l.client)) (drop l.reader-index l.readers) ≡ filter (λ c. not (nat_eq c l.client)) l.readers
