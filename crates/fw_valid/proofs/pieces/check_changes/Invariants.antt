use Rattle.std.specs.Prelude.{true, take, map, flat_map}
use Rattle.fw_text.specs.Texts.{hash}
use Rattle.fw_frame.specs.Plain.{plain_change}
use Rattle.fw_frame.specs.Parts.{change_pieces}
use Rattle.fw_valid.specs.Checks.{Checks}
use Rattle.fw_valid.proofs.pieces.check_changes.Given as goal

-- the view changes so far are valid
abbrev pub invariant-loop-change : goal.invariant-loop-change
invariant-loop-change g l = Checks l.directory 257 true l.fn.steps l.steps (flat_map (change_pieces hash) (map plain_change (take l.change-index l.changes)))
