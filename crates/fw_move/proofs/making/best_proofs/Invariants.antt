-- The proofs so far, and those of the numbers that are left, are all.
use Rattle.std.proofs.Common.{◌≡◌, ◌+◌, ◌-◌, ◌≤◌, ◌++◌, length, map, filter_map}
use Rattle.fw_list.specs.Lists.{numbers_from}
use Rattle.fw_owned.specs.Pieces.{proof_of}
use Rattle.fw_move.proofs.Best.{best_at}
use Rattle.fw_move.proofs.making.best_proofs.Given as goal

abbrev pub invariant-loop-k : goal.invariant-loop-k
invariant-loop-k l =
    let numbers = l.directory.params.numbers in
    record {
      parts : map proof_of l.proofs ++ filter_map (best_at l.keeps.proofs) (numbers_from (l.k + 1) (numbers - l.k)) ≡ filter_map (best_at l.keeps.proofs) (numbers_from 1 numbers);
      few : length l.proofs ≤ l.k;
    }
