-- The client's keys are not among those that were passed.
use Rattle.std.proofs.Common.{◌≡◌, drop}
use Rattle.fw_hand.specs.Hands.{key_in}
use Rattle.fw_hand.proofs.hand.key_of.Given as goal

abbrev pub invariant-loop-one : goal.invariant-loop-one
invariant-loop-one l = key_in l.keys l.client ≡ key_in (drop l.one-index l.keys) l.client
