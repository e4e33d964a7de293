-- What holds while the loop of `least_other` runs.
use Rattle.std.proofs.Common.{◌≡◌}
use Rattle.std.specs.List.Sorted.{IsStrictlySortedBy}
use Rattle.std.specs.Map.{keys_of}
use Rattle.std.specs.String.{string_cmp}
use Rattle.toml.specs.View.{members_view}
use Rattle.fw_sched.specs.Members.{least_other}
use Rattle.fw_sched.proofs.members.least_other.Given as goal

-- the names so far are a document's, and those that are left ascend
abbrev pub invariant-loop-name : goal.invariant-loop-name
invariant-loop-name l = record {
  can : (goal.iterator-loop-name).can_next l.name-iterator;
  finite : (goal.iterator-loop-name).is_finite l.name-iterator;
  same : least_other (members_view l.table.entries) ≡ least_other (members_view l.name-iterator);
  ordered : IsStrictlySortedBy string_cmp (keys_of l.name-iterator);
}
