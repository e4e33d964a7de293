-- The invariant of the loop of `add_all_names`.
use Rattle.std.proofs.Common.{◌≡◌, ◌++◌, take}
use Rattle.std.specs.List.{flat_map}
use Rattle.fw_op.specs.Replies.{name_bytes}
use Rattle.fw_op.proofs.encoding.add_all_names.Given as goal

abbrev pub invariant-loop-name : goal.invariant-loop-name
invariant-loop-name l = l.bytes ≡ l.fn.bytes ++ flat_map name_bytes (take l.name-index l.names)
