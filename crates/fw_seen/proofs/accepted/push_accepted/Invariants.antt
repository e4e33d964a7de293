-- The lines so far.
use Rattle.std.proofs.Common.{◌≡◌, ◌++◌, map, take}
use Rattle.fw_seen.specs.Summary.{accept_line_of}
use Rattle.fw_seen.proofs.accepted.push_accepted.Given as goal

abbrev pub invariant-loop-told : goal.invariant-loop-told
invariant-loop-told l = l.lines ≡ l.fn.lines ++ map (accept_line_of l.client) (take l.told-index l.accepted)
