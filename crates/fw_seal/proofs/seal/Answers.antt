use Rattle.std.proofs.Common.{refl}
use Rattle.fw_seal.proofs.Bodies.{body_written}
use Rattle.fw_seal.proofs.seal.Goals as goal

pub returns : goal.returns
returns c =
    body_written c.args.key.now c.args.way c.args.client c.args.number c.args.text.now _ _ _ _ _ _ c.requires.short
    c.block_of.ensures c.masked-cipher.ensures c.tag_of-tag.ensures c.copy_from_slice.ensures.after refl c.copy_from_slice-2.ensures.after
