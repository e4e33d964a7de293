-- With those that are left they are all.
use Rattle.std.proofs.Common.{◌≡◌, ◌≤◌, ◌+◌, ◌-◌, length, filter}
use Rattle.fw_list.specs.Lists.{numbers_from}
use Rattle.fw_know.specs.Known.{is_marked, at_point}
use Rattle.fw_know.proofs.known.Known.points.Given as goal

abbrev pub invariant-loop-point : goal.invariant-loop-point
invariant-loop-point l = record {
  few : l.count ≤ l.point;
  all : l.count + length (filter (λ k. is_marked l.self (at_point l.place k)) (numbers_from l.point (l.point-end - l.point))) ≡ length (filter (λ k. is_marked l.self (at_point l.place k)) (numbers_from 0 l.point-end));
}
