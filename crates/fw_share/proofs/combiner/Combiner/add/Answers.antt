-- A share is kept, and the reply is made.
use Rattle.std.proofs.Common.{◌∙◌, sym, ap, ap₂, length, map}
use Rattle.fw_frame.specs.Plain.{plain}
use Rattle.fw_frame.specs.View.{viewed}
use Rattle.fw_trace.specs.Filter.{has_share}
use Rattle.fw_share.specs.declared.kept.KeptShare.{KeptShare}
use Rattle.fw_share.specs.Shares.{valued}
use Rattle.fw_share.specs.Combining.{made_by}
use Rattle.fw_share.proofs.Seen.{seen-full, kept-more, first-kept}
use Rattle.fw_share.proofs.combiner.Combiner.add.Goals as goal

pub reply_with-requires-clause-new : goal.reply_with-requires-clause-new
reply_with-requires-clause-new c =
    let is = ap (λ f. viewed (plain f)) (sym c.frame.ensures ∙ c.in-Share.is) in
    let parts = seen-full c.self.inside.params (viewed (plain c.args.share.now)) _ (rw (sym c.self.view_is) at c.requires) is in
    record { exec = parts.0; values = ap length c.in_ok-copy_of.ensures ∙ parts.1 }

pub invariant_of-self-2 : goal.invariant_of-self-2
invariant_of-self-2 c =
    let is = ap (λ f. viewed (plain f)) (sym c.frame.ensures ∙ c.in-Share.is) in
    let parts = seen-full c.self.inside.params (viewed (plain c.args.share.now)) _ (rw (sym c.self.view_is) at c.requires) is in
    let first = ap (λ kept. has_share (map valued kept) c.in-Share.number c.in-Share.exec) (sym c.items.ensures) ∙ sym c.has_share.ensures ∙ c.if-has_share.false in
    let one : KeptShare = record { number = c.in-Share.number; exec = c.in-Share.exec; answer = c.in_ok-answer_of.field-0; values = c.in_ok-copy_of.field-0 } in
    let more = kept-more c.self.inside.params c.self.inside.shares one c.self.invariant.1 (record { exec = parts.0; values = ap length c.in_ok-copy_of.ensures ∙ parts.1 }) c.self.invariant.2 first in
    let now = rw (sym c.in_ok-push.ensures.ok) at more in
    (c.self.invariant.0, now.0, now.1)

pub returns-clause-first : goal.returns-clause-first
returns-clause-first c =
    let is = ap (λ f. viewed (plain f)) (sym c.frame.ensures ∙ c.in-Share.is) in
    let first = ap (λ kept. has_share (map valued kept) c.in-Share.number c.in-Share.exec) (sym c.items.ensures) ∙ sym c.has_share.ensures ∙ c.if-has_share.false in
    let same = ap₂ (λ answers values. record { number = c.in-Share.number; exec = c.in-Share.exec; value = (answers, values) }) c.in_ok-answer_of.ensures c.in_ok-copy_of.ensures in
    let one : KeptShare = record { number = c.in-Share.number; exec = c.in-Share.exec; answer = c.in_ok-answer_of.field-0; values = c.in_ok-copy_of.field-0 } in
    let made = c.in_ok-made.ensures ∙ ap (λ kept. made_by c.self.inside.params (map valued kept) (valued one)) c.items-2.ensures in
    rw (sym c.self.view_is)
    (first-kept c.self.inside.params (viewed (plain c.args.share.now)) _ c.self.inside.shares c.push.new.self one c.in_ok-made.made is same first c.in_ok-push.ensures.ok made)
