use Rattle.std.specs.Prelude.{map, take, flat_map}
use Rattle.fw_text.specs.Texts.{hash}
use Rattle.fw_frame.specs.Plain.{plain_change}
use Rattle.fw_frame.specs.Parts.{change_pieces}
use Rattle.fw_frame.specs.Gathered.{Gathers}
use Rattle.fw_frame.proofs.gather.gather_changes.Given as goal

-- the pieces of the view changes so far were gathered
abbrev pub invariant-loop-change : goal.invariant-loop-change
invariant-loop-change l = Gathers l.fn.out l.out (flat_map (change_pieces hash) (map plain_change (take l.change-index l.changes)))
