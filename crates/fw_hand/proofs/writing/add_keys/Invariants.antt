-- What was added so far.
use Rattle.std.proofs.Common.{◌≡◌, ◌++◌, take}
use Rattle.std.specs.Prelude.{flat_map}
use Rattle.fw_hand.specs.Files.{held_key_bytes}
use Rattle.fw_hand.proofs.writing.add_keys.Given as goal

abbrev pub invariant-loop-one : goal.invariant-loop-one
invariant-loop-one l = l.out ≡ l.fn.out ++ flat_map held_key_bytes (take l.one-index l.keys)
