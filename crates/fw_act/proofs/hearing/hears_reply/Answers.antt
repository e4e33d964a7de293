-- A second reply of a number changes nothing; the first one is held, and sent to the client of its answer.
use Rattle.std.proofs.Common.{◌≡◌, ℕ, List, [], ◌∷◌, ◌++◌, true, false, sym, ap, ◌∙◌}
use Rattle.std.specs.Prelude.{is_some}
use Rattle.std.specs.Option.{option_copied}
use Rattle.std.proofs.lemmas.Result.{on_ok_weaker}
use Rattle.fw_frame.specs.View.{Given, Reply, Replies, viewed_answers}
use Rattle.fw_means.specs.Means.{written}
use Rattle.fw_node.specs.Histories.{Out}
use Rattle.fw_owned.specs.declared.owned.OwnedReply.{OwnedReply}
use Rattle.fw_kept.specs.Kept.{self_of, node_of}
use Rattle.fw_settled.specs.Queued.{reply_in}
use Rattle.fw_act.proofs.Held.{held_is, in_is, again_kept, again_sent, first_kept, first_sent, same_reply, one_answer}
use Rattle.fw_act.proofs.hearing.hears_reply.Goals as goal

abbrev reply : ℕ → ℕ → ℕ → List ℕ → List ℕ → OwnedReply
reply number client stamp body values = record { number = number; client = client; stamp = stamp; body = body; values = values }

abbrev seen : ℕ → ℕ → ℕ → List ℕ → List ℕ → Reply
seen number client stamp body values = record { number = number; answers = viewed_answers client stamp body; values = values }

pub returns-then-is_some-clause-kept : goal.returns-then-is_some-clause-kept
returns-then-is_some-clause-kept c = λ d hand own.
    let a = c.args in
    again_kept (self_of d hand own) (node_of a.keeps.now) (seen a.number a.client a.stamp a.body.now a.values.now)
    (held_is a.keeps.now.settled.held a.number c.reply_at.result true c.reply_at.ensures (sym c.is_some.ensures ∙ c.if-is_some.true))

pub returns-then-is_some-clause-sent : goal.returns-then-is_some-clause-sent
returns-then-is_some-clause-sent c = λ d hand own.
    let a = c.args in
    again_sent (self_of d hand own) (node_of a.keeps.now) (seen a.number a.client a.stamp a.body.now a.values.now) a.out.now
    (held_is a.keeps.now.settled.held a.number c.reply_at.result true c.reply_at.ensures (sym c.is_some.ensures ∙ c.if-is_some.true))

pub returns-then-stamp-eq0-clause-kept : goal.returns-then-stamp-eq0-clause-kept
returns-then-stamp-eq0-clause-kept c = λ d hand own.
    let a = c.args in
    let body = c.in_ok-copy_of.field-0 in
    let values = c.in_ok-copy_of-2.field-0 in
    let none = sym c.is_some.ensures ∙ c.if-is_some.false in
    first_kept (self_of d hand own) a.keeps.now c.hold.new.self (reply a.number a.client a.stamp body values) (seen a.number a.client a.stamp a.body.now a.values.now) c.in_ok-hold.ensures.ok
    (in_is c.reply_at.result (reply_in a.keeps.now.settled.held a.number) false c.reply_at.ensures none)
    (held_is a.keeps.now.settled.held a.number c.reply_at.result false c.reply_at.ensures none)
    (same_reply a.number a.client a.stamp body values a.body.now a.values.now c.in_ok-copy_of.ensures c.in_ok-copy_of-2.ensures)

pub returns-clause-kept : goal.returns-clause-kept
returns-clause-kept c =
    let a = c.args in
    let body = c.in_ok-copy_of.field-0 in
    let values = c.in_ok-copy_of-2.field-0 in
    let none = sym c.is_some.ensures ∙ c.if-is_some.false in
    on_ok_weaker c.push.result
    (λ sent d hand own. first_kept (self_of d hand own) a.keeps.now c.hold-2.new.self (reply a.number a.client a.stamp body values) (seen a.number a.client a.stamp a.body.now a.values.now) c.in_ok-hold-2.ensures.ok
    (in_is c.reply_at.result (reply_in a.keeps.now.settled.held a.number) false c.reply_at.ensures none)
    (held_is a.keeps.now.settled.held a.number c.reply_at.result false c.reply_at.ensures none)
    (same_reply a.number a.client a.stamp body values a.body.now a.values.now c.in_ok-copy_of.ensures c.in_ok-copy_of-2.ensures))
    c.push.ensures.ok

pub returns-clause-sent : goal.returns-clause-sent
returns-clause-sent c =
    let a = c.args in
    let body = c.in_ok-copy_of.field-0 in
    let values = c.in_ok-copy_of-2.field-0 in
    let none = sym c.is_some.ensures ∙ c.if-is_some.false in
    let given : Given = record { client = a.client; stamp = a.stamp; body = a.body.now } in
    on_ok_weaker c.push.result
    (λ sent d hand own. sent ∙ ap (λ (more : Out). a.out.now ++ more)
    (first_sent d hand own (node_of a.keeps.now) (seen a.number a.client a.stamp a.body.now a.values.now) given c.in_ok-bytes.bytes
    (held_is a.keeps.now.settled.held a.number c.reply_at.result false c.reply_at.ensures none)
    (one_answer a.client a.stamp a.body.now c.if-stamp-eq0.false)
    (c.in_ok-bytes.ensures ∙ ap (λ (r : Reply). written (Replies r)) (same_reply a.number a.client a.stamp body values a.body.now a.values.now c.in_ok-copy_of.ensures c.in_ok-copy_of-2.ensures))))
    c.push.ensures.ok
