-- The reply that is made with a share is held.
use Rattle.std.proofs.Common.{◌∙◌, refl, ap, sym, subst}
use Rattle.std.proofs.lemmas.Result.{on_ok_weaker}
use Rattle.std.proofs.lemmas.List.{append-nil}
use Rattle.fw_trace.specs.Filter as filters
use Rattle.fw_frame.specs.Plain.{plain}
use Rattle.fw_frame.specs.View.{viewed}
use Rattle.fw_share.specs.Shares.{share_in}
use Rattle.fw_filter.specs.Sifting.{Keeps, SpeaksIn, Does}
use Rattle.fw_filter.proofs.Ready.{share-heard}
use Rattle.fw_filter.proofs.sieve.Sieve.hear_share.Goals as goal

pub returns-in-Some-clause-step : goal.returns-in-Some-clause-step
returns-in-Some-clause-step c =
    let k = c.self.inside in
    let x : Keeps = record { held = k.held; asked = k.asked; shares = k.combiner.kept } in
    let y : Keeps = record x { shares = c.add.new.self.kept } in
    rw (sym c.self.view_is)
    (on_ok_weaker c.hold.result
    (λ step sp speaks ready.
    let heard = share-heard k.combiner.params k.row sp (subst (λ p. SpeaksIn p k.row sp) (sym c.self.invariant.2) speaks) x (share_in (viewed (plain c.args.share.now))) c.add.new.self.kept c.in_ok-reply.field-0 c.args.number ready c.requires.number c.in_ok-reply.ensures.kept c.in_ok-reply.ensures.made c.in_ok-reply.ensures.first in
    subst (Does c.hold.new.self.keeps c.args.out.now c.hold.new.out) (ap (filters.hold sp y c.args.number) c.items.ensures ∙ ap (filters.hold_made sp y c.args.number) (sym c.in-Some.is) ∙ heard) (step sp speaks))
    c.hold.ensures.step)

pub returns-in-None-clause-step : goal.returns-in-None-clause-step
returns-in-None-clause-step c =
    let k = c.self.inside in
    let x : Keeps = record { held = k.held; asked = k.asked; shares = k.combiner.kept } in
    let y : Keeps = record x { shares = c.add.new.self.kept } in
    rw (sym c.self.view_is)
    (λ sp speaks ready.
    let heard = share-heard k.combiner.params k.row sp (subst (λ p. SpeaksIn p k.row sp) (sym c.self.invariant.2) speaks) x (share_in (viewed (plain c.args.share.now))) c.add.new.self.kept c.in_ok-reply.field-0 c.args.number ready c.requires.number c.in_ok-reply.ensures.kept c.in_ok-reply.ensures.made c.in_ok-reply.ensures.first in
    subst (Does y c.args.out.now c.args.out.now) (ap (filters.hold_made sp y c.args.number) (sym c.in-None.is) ∙ heard) (refl, sym (append-nil c.args.out.now)))
