-- What is left to show of `revoke`.
use Rattle.std.proofs.Common.{◌≡◌, [], true, sym, ap}
use Rattle.fw_op.specs.declared.op.Op.TheVariants.{Revoke}
use Rattle.fw_op.specs.declared.reply.Name.{Name}
use Rattle.fw_op.specs.declared.reply.Reply.TheVariants.{Done, Absent}
use Rattle.fw_store.specs.Store.{changed, without_reader, unread}
use Rattle.fw_store.specs.Wants.{wants, may_want}
use Rattle.fw_store.specs.Places.{StandsAt}
use Rattle.fw_store.proofs.Done.{own-changed, own-replied}
use Rattle.fw_store.proofs.Wanted.{in_any_case}
use Rattle.fw_store.proofs.change.revoke.Goals as goal

pub returns-in_ok-leave_out-in-Ok-clause-reply : goal.returns-in_ok-leave_out-in-Ok-clause-reply
returns-in_ok-leave_out-in-Ok-clause-reply c =
    let n : Name = record { owner = c.args.caller; key = c.args.key.now } in
    let rs = c.args.records.now.items in
    let at : StandsAt n rs c.in-Ok.place = rw (c.as_slice.ensures.value, c.items.ensures) at c.in-Ok.ensures in
    own-replied n rs c.in-Ok.place (unread n []) (Absent, rs) Done (changed (without_reader c.args.client) n rs) at

pub returns-in_ok-leave_out-in-Ok-clause-after : goal.returns-in_ok-leave_out-in-Ok-clause-after
returns-in_ok-leave_out-in-Ok-clause-after c =
    let n : Name = record { owner = c.args.caller; key = c.args.key.now } in
    let rs = c.args.records.now.items in
    let at : StandsAt n rs c.in-Ok.place = rw (c.as_slice.ensures.value, c.items.ensures) at c.in-Ok.ensures in
    own-changed n rs c.in-Ok.place (unread n []) (without_reader c.args.client) (Absent, rs) Done c.leave_out.new.records.items at (c.in_ok-leave_out-in-Ok.ensures.ok (unread n []))

pub returns-in_err-leave_out-in-Ok-clause-memory : goal.returns-in_err-leave_out-in-Ok-clause-memory
returns-in_err-leave_out-in-Ok-clause-memory c =
    let n : Name = record { owner = c.args.caller; key = c.args.key.now } in
    let rs = c.args.records.now.items in
    let at : StandsAt n rs c.in-Ok.place = rw (c.as_slice.ensures.value, c.items.ensures) at c.in-Ok.ensures in
    let wanted : may_want c.args.caller (Revoke c.args.key.now c.args.client) rs ≡ true =
    sym (ap (wants (Revoke c.args.key.now c.args.client)) (own-replied n rs c.in-Ok.place (unread n []) (Absent, rs) Done (changed (without_reader c.args.client) n rs) at)) in
    in_any_case c.from_residual.result wanted
