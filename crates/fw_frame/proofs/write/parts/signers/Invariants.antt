use Rattle.std.proofs.Common.{◌≡◌, ◌++◌, length, map, take}
use Rattle.std.specs.List.{flat_map}
use Rattle.fw_list.specs.Numbers.{u32}
use Rattle.fw_frame.specs.Plain.{plain_signer}
use Rattle.fw_frame.specs.Spelling.{signer_bytes}
use Rattle.fw_frame.proofs.write.parts.signers.Given as goal

abbrev pub invariant-loop-one : goal.invariant-loop-one
invariant-loop-one l = l.out ≡ l.fn.out ++ (u32 (length l.signers) ++ flat_map signer_bytes (map plain_signer (take l.one-index l.one-items)))
