-- The first of those that are left is the first of all.
use Rattle.std.proofs.Common.{◌≡◌, drop, not}
use Rattle.std.specs.List.{find}
use Rattle.fw_frame.specs.declared.shown.Shown.{Shown}
use Rattle.fw_know.specs.Known.{is_marked, known_by}
use Rattle.fw_know.proofs.known.Known.first_other.Given as goal

abbrev pub invariant-loop-k : goal.invariant-loop-k
invariant-loop-k l =
    find (λ (pair : Shown). not (known_by l.self.params (is_marked l.self) pair.place)) (drop l.k l.pairs) ≡ find (λ (pair : Shown). not (known_by l.self.params (is_marked l.self) pair.place)) l.pairs
