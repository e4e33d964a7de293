use Rattle.fw_frame.proofs.Reading.{part_finds}
use Rattle.fw_frame.proofs.read.fields.part.Goals as goal

pub returns : goal.returns
returns c = part_finds c.args.len c.args.reader.now c.fixed.new.self c.fixed.result c.fixed.ensures
