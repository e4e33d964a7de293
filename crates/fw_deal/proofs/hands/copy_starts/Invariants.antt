use Rattle.std.proofs.Common.{◌≡◌, take}
use Rattle.fw_deal.proofs.hands.copy_starts.Given as goal

abbrev pub invariant-loop-start : goal.invariant-loop-start
invariant-loop-start l = l.copy ≡ take l.start-index l.starts
