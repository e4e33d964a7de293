-- As many marks as turns, none of which is set.
use Rattle.std.proofs.Common.{◌≡◌, ℕ, false, length, get_or}
use Rattle.fw_know.proofs.marks.no_marks.Given as goal

abbrev pub invariant-loop : goal.invariant-loop
invariant-loop l = record {
  count : length l.marks.items ≡ l.counter;
  none : (k : ℕ) → get_or l.marks.items k false ≡ false;
}
