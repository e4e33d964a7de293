use Rattle.std.proofs.Common.{◌≡◌, ◌++◌, map}
use Rattle.fw_list.specs.Lists.{numbers_from}
use Rattle.fw_frame.specs.Parts.{plain_part, shown_at}
use Rattle.fw_frame.proofs.carried.add_bits.Given as goal

-- the values for the bits so far were added
abbrev pub invariant-loop-bit : goal.invariant-loop-bit
invariant-loop-bit l = l.out ≡ l.fn.out ++ map (shown_at (plain_part l.part)) (numbers_from 0 l.bit)
