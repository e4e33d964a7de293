use Rattle.std.proofs.Common.{◌≡◌, ◌++◌, length, map, take}
use Rattle.std.specs.List.{flat_map}
use Rattle.fw_list.specs.Numbers.{u32}
use Rattle.fw_frame.specs.Plain.{plain_proof}
use Rattle.fw_frame.specs.Spelling.{proof_bytes}
use Rattle.fw_frame.proofs.write.parts.proofs.Given as goal

abbrev pub invariant-loop-one : goal.invariant-loop-one
invariant-loop-one l = l.out ≡ l.fn.out ++ (u32 (length l.proofs) ++ flat_map proof_bytes (map plain_proof (take l.one-index l.one-items)))
