-- What is left to show of `add`.
use Rattle.std.proofs.Common.{sym, ◌∙◌}
use Rattle.fw_op.specs.declared.reply.Name.{Name}
use Rattle.fw_store.specs.Store.{name_of}
use Rattle.fw_store.specs.Places.{StandsAt}
use Rattle.fw_store.proofs.build.add.Goals as goal

-- the name is new, so no record of it stands anywhere
pub returns-in-Ok : goal.returns-in-Ok
returns-in-Ok c =
    let n : Name = name_of c.args.new in
    let at : StandsAt n c.args.records.now.items c.in-Ok.field-0 = rw (c.as_slice.ensures.value, c.items.ensures) at c.in-Ok.ensures in
    let found = sym c.requires.absent ∙ at.finds c.args.new in
    cc
