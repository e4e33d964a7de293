-- What was added so far.
use Rattle.std.proofs.Common.{◌≡◌, ◌++◌, map}
use Rattle.fw_list.specs.Lists.{numbers_from}
use Rattle.fw_base.specs.declared.slot.Slot.TheVariants as slots
use Rattle.fw_hand.proofs.slots.add_prepares.Given as goal

abbrev pub invariant-loop-k : goal.invariant-loop-k
invariant-loop-k l = l.slots ≡ l.fn.slots ++ map (λ n. slots.Prepare l.view n l.agree) (numbers_from 1 l.k)
