-- The slot's values are not among those that were passed.
use Rattle.std.proofs.Common.{◌≡◌, drop}
use Rattle.fw_hand.specs.Hands.{values_in}
use Rattle.fw_hand.proofs.hand.values_of.Given as goal

abbrev pub invariant-loop-one : goal.invariant-loop-one
invariant-loop-one l = values_in l.held l.slot ≡ values_in (drop l.one-index l.held) l.slot
