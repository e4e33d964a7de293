-- What was added so far.
use Rattle.std.proofs.Common.{◌≡◌, ◌++◌, take}
use Rattle.std.specs.List.{flat_map}
use Rattle.fw_record.specs.Records.{start_bytes}
use Rattle.fw_record.proofs.writing.add_each.Given as goal

abbrev pub invariant-loop-start : goal.invariant-loop-start
invariant-loop-start l = l.out ≡ l.fn.out ++ flat_map start_bytes (take l.start-index l.starts)
