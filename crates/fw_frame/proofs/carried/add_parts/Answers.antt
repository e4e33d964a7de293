use Rattle.fw_frame.specs.Parts.{plain_part, IsWhole}
use Rattle.fw_frame.proofs.Rows.{All_map_at}
use Rattle.fw_frame.proofs.carried.add_parts.Goals as goal

-- each part is whole
pub add_part-requires : goal.add_part-requires
add_part-requires c = All_map_at IsWhole plain_part c.args.parts.now c.loop-part.part-index _ c.loop-part-test.true c.requires
