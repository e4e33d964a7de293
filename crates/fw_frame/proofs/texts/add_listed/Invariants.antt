use Rattle.std.proofs.Common.{◌≡◌, ◌++◌, map, take}
use Rattle.std.specs.List.{flat_map}
use Rattle.fw_text.specs.Texts.{hash, listed_bytes}
use Rattle.fw_frame.specs.Plain.{plain_proof}
use Rattle.fw_frame.specs.Parts.{listed}
use Rattle.fw_frame.proofs.texts.add_listed.Given as goal

-- the proofs so far were added
abbrev pub invariant-loop-proof : goal.invariant-loop-proof
invariant-loop-proof l =
    l.text ≡ l.fn.text ++ flat_map listed_bytes (map (listed hash) (map plain_proof (take l.proof-index l.proofs)))
