-- The reply is made of the shares that say the same.
use Rattle.std.proofs.Common.{◌+◌, ℕ, List, map, sym, ap₂, subst, ◌∙◌, Bor}
use Rattle.std.specs.List.{zip}
use Rattle.std.proofs.lemmas.List.{length-map}
use Rattle.fw_shamir.specs.Polynomial.{AreDistinct}
use Rattle.fw_means.specs.Means.{joined_values}
use Rattle.fw_share.specs.Shares.{Share, valued}
use Rattle.fw_share.proofs.Joined.{read-all, points-distinct, values-long, reply-made, reply-not-made}
use Rattle.fw_share.proofs.joining.reply_with.Goals as goal

pub returns-then-len-params : goal.returns-then-len-params
returns-then-len-params c =
    let s = valued c.args.share.now in
    let kept = map valued c.args.kept.now in
    let vs = c.in_ok-add.ensures.values ∙ read-all (λ (t : Share). t.value.1) s kept _ c.in_ok-equals.ensures.values in
    reply-not-made c.args.params.now s kept (map (λ (v : Bor (List ℕ)). v.now) c.add.new.self.values) vs
    (λ many. c.if-len-params.true (c.len.ensures ∙ sym (length-map c.add.new.self.values (λ (v : Bor (List ℕ)). v.now)) ∙ many))

pub join-requires-clause-distinct : goal.join-requires-clause-distinct
join-requires-clause-distinct c =
    let s = valued c.args.share.now in
    let kept = map valued c.args.kept.now in
    let ps = c.in_ok-add.ensures.points ∙ read-all (λ (t : Share). t.exec + 1) s kept _ c.in_ok-equals.ensures.points in
    subst AreDistinct (sym (c.items.ensures ∙ ps)) (points-distinct s kept c.requires.firsts c.requires.first)

pub join-requires-clause-lengths : goal.join-requires-clause-lengths
join-requires-clause-lengths c =
    let s = valued c.args.share.now in
    let kept = map valued c.args.kept.now in
    let vs = c.in_ok-add.ensures.values ∙ read-all (λ (t : Share). t.value.1) s kept _ c.in_ok-equals.ensures.values in
    rw c.items-2.ensures (values-long c.args.params.now s kept c.add.new.self.values c.requires.whole c.requires.new vs)

pub returns : goal.returns
returns c =
    let s = valued c.args.share.now in
    let kept = map valued c.args.kept.now in
    let ps = c.in_ok-add.ensures.points ∙ read-all (λ (t : Share). t.exec + 1) s kept _ c.in_ok-equals.ensures.points in
    let vs = c.in_ok-add.ensures.values ∙ read-all (λ (t : Share). t.value.1) s kept _ c.in_ok-equals.ensures.values in
    let now : List (Bor (List ℕ)) → List (List ℕ) = map (λ (v : Bor (List ℕ)). v.now) in
    reply-made c.args.params.now s kept c.add.new.self.points (now c.add.new.self.values) c.join.new.out c.in_ok-reply.field-0 c.requires.first ps vs
    (length-map c.add.new.self.values (λ (v : Bor (List ℕ)). v.now) ∙ sym c.len.ensures ∙ c.if-len-params.false)
    (c.join.ensures.value ∙ ap₂ (λ points values. joined_values (zip points (now values))) c.items.ensures c.items-2.ensures)
    c.in_ok-reply.ensures
