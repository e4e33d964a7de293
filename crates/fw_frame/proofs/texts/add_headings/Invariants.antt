use Rattle.std.proofs.Common.{◌≡◌, ◌++◌, map, take}
use Rattle.std.specs.List.{flat_map}
use Rattle.fw_text.specs.Texts.{hash, heading_bytes}
use Rattle.fw_frame.specs.Plain.{plain_change}
use Rattle.fw_frame.specs.Parts.{heading}
use Rattle.fw_frame.proofs.texts.add_headings.Given as goal

-- the view changes so far were added
abbrev pub invariant-loop-change : goal.invariant-loop-change
invariant-loop-change l =
    l.text ≡ l.fn.text ++ flat_map heading_bytes (map (heading hash) (map plain_change (take l.change-index l.changes)))
