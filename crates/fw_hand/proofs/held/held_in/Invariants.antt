-- How far the list has been read.
use Rattle.std.proofs.Common.{drop}
use Rattle.fw_hand.specs.Hands.{IsListed, point_of, slots_of}
use Rattle.fw_hand.proofs.Along.{SoFar}
use Rattle.fw_hand.proofs.held.held_in.Given as goal

abbrev pub invariant-loop-slot : goal.invariant-loop-slot
invariant-loop-slot l =
    SoFar (λ h. h.values) (λ h. h.slot) (IsListed l.directory (point_of l.fn.seat)) (slots_of l.directory.params l.fn.seat) (drop l.slot-index l.slot-items) l.fn.reader l.held l.reader
