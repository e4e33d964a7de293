-- There are as many values as a signature has.
use Rattle.std.proofs.Common.{◌≡◌, length}
use Rattle.try_nodes.proofs.signing.values_on.Given as goal

abbrev pub invariant-loop-bit : goal.invariant-loop-bit
invariant-loop-bit l = length l.values ≡ 8192
