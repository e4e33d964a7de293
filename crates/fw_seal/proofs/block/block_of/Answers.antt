use Rattle.std.proofs.Common.{arith, refl, ◌∙◌}
use Rattle.fw_seal.proofs.Blocks.{written}
use Rattle.fw_seal.proofs.block.block_of.Goals as goal

pub returns : goal.returns
returns c = written _ _ _ _ c.args.text.now c.requires (c.copy_from_slice.ensures.after ∙ c.to_be_bytes.ensures) refl (omega arith) c.copy_from_slice-2.ensures.after
