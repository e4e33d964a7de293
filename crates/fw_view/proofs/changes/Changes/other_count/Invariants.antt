-- With those that are left they are all.
use Rattle.std.proofs.Common.{◌≡◌, ◌≤◌, ◌+◌, ◌-◌, ◌&&◌, not, nat_eq, length, filter}
use Rattle.fw_list.specs.Lists.{numbers_from}
use Rattle.fw_view.specs.Counted.{sent_for}
use Rattle.fw_view.proofs.changes.Changes.other_count.Given as goal

abbrev pub invariant-loop-agree : goal.invariant-loop-agree
invariant-loop-agree l = record {
  few : l.count ≤ l.agree;
  all : l.count + length (filter (λ i. not (nat_eq i l.own) && sent_for l.self l.view i) (numbers_from l.agree (l.agree-end - l.agree))) ≡ length (filter (λ i. not (nat_eq i l.own) && sent_for l.self l.view i) (numbers_from 0 l.agree-end));
}
