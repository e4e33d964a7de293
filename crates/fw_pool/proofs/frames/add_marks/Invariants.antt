-- The marks begin as before, and none is added that stands.
use Rattle.std.proofs.Common.{◌≡◌, ◌+◌, ℕ, take, length}
use Rattle.fw_pool.specs.Due.{is_marked}
use Rattle.fw_pool.proofs.frames.add_marks.Given as goal

abbrev pub invariant-loop : goal.invariant-loop
invariant-loop l = record {
  count : length l.marks.items ≡ length l.fn.marks.items + l.counter;
  same : (k : ℕ) → is_marked l.marks.items k ≡ is_marked l.fn.marks.items k;
  begins : take (length l.fn.marks.items) l.marks.items ≡ l.fn.marks.items;
}
