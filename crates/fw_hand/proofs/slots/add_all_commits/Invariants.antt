-- What was added so far.
use Rattle.std.proofs.Common.{◌≡◌, ◌++◌, map}
use Rattle.std.specs.Prelude.{flat_map}
use Rattle.fw_list.specs.Lists.{numbers_from}
use Rattle.fw_base.specs.declared.slot.Slot.TheVariants as slots
use Rattle.fw_hand.proofs.slots.add_all_commits.Given as goal

abbrev pub invariant-loop-view : goal.invariant-loop-view
invariant-loop-view l = l.slots ≡ l.fn.slots ++ flat_map (λ v. map (λ n. slots.Commit v n l.agree) (numbers_from 1 l.params.numbers)) (numbers_from 0 l.view)
