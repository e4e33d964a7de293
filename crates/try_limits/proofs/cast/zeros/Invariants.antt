-- So many bytes so far.
use Rattle.std.proofs.Common.{◌≡◌, length}
use Rattle.try_limits.proofs.cast.zeros.Given as goal

abbrev pub invariant-loop : goal.invariant-loop
invariant-loop l = length l.bytes ≡ l.counter
