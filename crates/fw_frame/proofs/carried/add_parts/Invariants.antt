use Rattle.std.proofs.Common.{◌≡◌, ◌++◌, map, take}
use Rattle.std.specs.Prelude.{flat_map}
use Rattle.fw_frame.specs.Parts.{plain_part, shown_of}
use Rattle.fw_frame.proofs.carried.add_parts.Given as goal

-- what the parts so far carry was added
abbrev pub invariant-loop-part : goal.invariant-loop-part
invariant-loop-part l = l.out ≡ l.fn.out ++ flat_map shown_of (map plain_part (take l.part-index l.parts))
