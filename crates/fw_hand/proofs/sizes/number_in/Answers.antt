-- A number of four bytes.
use Rattle.std.proofs.Common.{rules}
use Rattle.fw_hand.proofs.Heads.{number_finds}
use Rattle.fw_hand.proofs.sizes.number_in.Goals as goal

pub returns : goal.returns
returns c = number_finds c.args.reader.now c.u32.new.self c.u32.result c.u32.ensures (search rules)
