-- With those that are left they are all.
use Rattle.std.proofs.Common.{◌≡◌, ◌≤◌, ◌+◌, ◌-◌, length, filter}
use Rattle.std.specs.Prelude.{is_some}
use Rattle.fw_list.specs.Lists.{numbers_from}
use Rattle.fw_view.specs.Counted.{frame_of}
use Rattle.fw_view.proofs.changes.Changes.sender_count.Given as goal

abbrev pub invariant-loop-agree : goal.invariant-loop-agree
invariant-loop-agree l = record {
  few : l.count ≤ l.agree;
  all : l.count + length (filter (λ i. is_some (frame_of l.self l.view i)) (numbers_from l.agree (l.agree-end - l.agree))) ≡ length (filter (λ i. is_some (frame_of l.self l.view i)) (numbers_from 0 l.agree-end));
}
