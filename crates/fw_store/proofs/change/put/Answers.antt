-- What is left to show of `put`.
use Rattle.std.proofs.Common.{[]}
use Rattle.fw_op.specs.declared.reply.Name.{Name}
use Rattle.fw_op.specs.declared.reply.Reply.TheVariants.{Done}
use Rattle.fw_store.specs.Store.{added, with_value, unread}
use Rattle.fw_store.specs.Places.{StandsAt}
use Rattle.fw_store.proofs.Done.{own-changed}
use Rattle.fw_store.proofs.change.put.Goals as goal

pub returns-in_ok-set_value-in-Ok-clause-after : goal.returns-in_ok-set_value-in-Ok-clause-after
returns-in_ok-set_value-in-Ok-clause-after c =
    let n : Name = record { owner = c.args.client; key = c.args.key.now } in
    let rs = c.args.records.now.items in
    let at : StandsAt n rs c.in-Ok.place = rw (c.as_slice.ensures.value, c.items.ensures) at c.in-Ok.ensures in
    own-changed n rs c.in-Ok.place (unread n []) (with_value c.args.value.now) (Done, added (unread n c.args.value.now) rs) Done c.set_value.new.records.items at (c.in_ok-set_value-in-Ok.ensures.ok (unread n []))
