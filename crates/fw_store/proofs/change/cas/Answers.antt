-- What is left to show of `cas`.
use Rattle.std.proofs.Common.{◌≡◌, List, [], get_or, true, false, sym, ap, ◌∙◌}
use Rattle.std.specs.Prelude.{bytes_eq}
use Rattle.fw_op.specs.declared.op.Op.TheVariants.{Cas}
use Rattle.fw_op.specs.declared.reply.Name.{Name}
use Rattle.fw_op.specs.declared.reply.Reply.{Reply}
use Rattle.fw_op.specs.declared.reply.Reply.TheVariants.{Done, Absent, Differs}
use Rattle.fw_op.specs.declared.start.Start.{Start}
use Rattle.fw_store.specs.Store.{changed, with_value, unread}
use Rattle.fw_store.specs.Wants.{wants, may_want}
use Rattle.fw_store.specs.Places.{StandsAt}
use Rattle.fw_store.proofs.Done.{swapped-here}
use Rattle.fw_store.proofs.Wanted.{in_any_case}
use Rattle.fw_store.proofs.change.cas.Goals as goal

pub returns-then-not-has_value-clause-reply : goal.returns-then-not-has_value-clause-reply
returns-then-not-has_value-clause-reply c =
    let n : Name = record { owner = c.args.client; key = c.args.key.now } in
    let rs = c.args.records.now.items in
    let k = c.in-Ok.place in
    let r = unread n [] in
    let at : StandsAt n rs k = rw (c.as_slice.ensures.value, c.items.ensures) at c.in-Ok.ensures in
    let same : false ≡ bytes_eq (get_or rs k r).value c.args.old.now = rw c.as_slice-in-Ok.ensures.value at (c.if-not-has_value.ensures r) in
    let here = swapped-here n rs k r c.args.old.now (Absent, rs) (Differs, rs) (Done, changed (with_value c.args.new.now) n rs) false at same in
    sym (ap (λ (o : Reply × List Start). o.0) here)

pub returns-then-not-has_value-clause-after : goal.returns-then-not-has_value-clause-after
returns-then-not-has_value-clause-after c =
    let n : Name = record { owner = c.args.client; key = c.args.key.now } in
    let rs = c.args.records.now.items in
    let k = c.in-Ok.place in
    let r = unread n [] in
    let at : StandsAt n rs k = rw (c.as_slice.ensures.value, c.items.ensures) at c.in-Ok.ensures in
    let same : false ≡ bytes_eq (get_or rs k r).value c.args.old.now = rw c.as_slice-in-Ok.ensures.value at (c.if-not-has_value.ensures r) in
    let here = swapped-here n rs k r c.args.old.now (Absent, rs) (Differs, rs) (Done, changed (with_value c.args.new.now) n rs) false at same in
    sym (ap (λ (o : Reply × List Start). o.1) here)

pub returns-in_ok-set_value-in-Ok-clause-reply : goal.returns-in_ok-set_value-in-Ok-clause-reply
returns-in_ok-set_value-in-Ok-clause-reply c =
    let n : Name = record { owner = c.args.client; key = c.args.key.now } in
    let rs = c.args.records.now.items in
    let k = c.in-Ok.place in
    let r = unread n [] in
    let at : StandsAt n rs k = rw (c.as_slice.ensures.value, c.items.ensures) at c.in-Ok.ensures in
    let same : true ≡ bytes_eq (get_or rs k r).value c.args.old.now = rw c.as_slice-in-Ok.ensures.value at (c.if-not-has_value.ensures r) in
    let here = swapped-here n rs k r c.args.old.now (Absent, rs) (Differs, rs) (Done, changed (with_value c.args.new.now) n rs) true at same in
    sym (ap (λ (o : Reply × List Start). o.0) here)

pub returns-in_ok-set_value-in-Ok-clause-after : goal.returns-in_ok-set_value-in-Ok-clause-after
returns-in_ok-set_value-in-Ok-clause-after c =
    let n : Name = record { owner = c.args.client; key = c.args.key.now } in
    let rs = c.args.records.now.items in
    let k = c.in-Ok.place in
    let r = unread n [] in
    let at : StandsAt n rs k = rw (c.as_slice.ensures.value, c.items.ensures) at c.in-Ok.ensures in
    let same : true ≡ bytes_eq (get_or rs k r).value c.args.old.now = rw c.as_slice-in-Ok.ensures.value at (c.if-not-has_value.ensures r) in
    let here = swapped-here n rs k r c.args.old.now (Absent, rs) (Differs, rs) (Done, changed (with_value c.args.new.now) n rs) true at same in
    c.in_ok-set_value-in-Ok.ensures.ok r ∙ sym (at.changes (with_value c.args.new.now) r) ∙ sym (ap (λ (o : Reply × List Start). o.1) here)

pub returns-in_err-set_value-in-Ok-clause-memory : goal.returns-in_err-set_value-in-Ok-clause-memory
returns-in_err-set_value-in-Ok-clause-memory c =
    let n : Name = record { owner = c.args.client; key = c.args.key.now } in
    let rs = c.args.records.now.items in
    let k = c.in-Ok.place in
    let r = unread n [] in
    let at : StandsAt n rs k = rw (c.as_slice.ensures.value, c.items.ensures) at c.in-Ok.ensures in
    let same : true ≡ bytes_eq (get_or rs k r).value c.args.old.now = rw c.as_slice-in-Ok.ensures.value at (c.if-not-has_value.ensures r) in
    let here = swapped-here n rs k r c.args.old.now (Absent, rs) (Differs, rs) (Done, changed (with_value c.args.new.now) n rs) true at same in
    let wanted : may_want c.args.client (Cas c.args.key.now c.args.old.now c.args.new.now) rs ≡ true = ap (λ (o : Reply × List Start). wants (Cas c.args.key.now c.args.old.now c.args.new.now) o.0) here in
    in_any_case c.from_residual.result wanted
