use Rattle.std.proofs.Common.{◌≡◌, map, ap, ◌∙◌, sym, subst, refl, IsTrue}
use Rattle.fw_base.specs.declared.params.Params.{Params}
use Rattle.fw_base.specs.Seats.{fits}
use Rattle.fw_base.specs.Sizes.{accepted}
use Rattle.fw_secret.specs.Dealt.{Origin}
use Rattle.fw_hand.specs.Hands.{PlainHand, values_in}
use Rattle.fw_hand.proofs.OwnSlots.{own_values, other_values}
use Rattle.fw_deal.specs.Deals.{PlainDeal, hand_of, held_of, key_of, starts_of, held_at}
use Rattle.fw_deal.proofs.Seats.{ready, clients_ready, hand_made}
use Rattle.fw_deal.proofs.deal.Deal.hand.Goals as goal

pub held_of-requires-clause-slots : goal.held_of-requires-clause-slots
held_of-requires-clause-slots c =
    let p : Params = c.params-params.result.now in
    let same : c.args.self.now.origin.params ≡ p = sym (c.params-params.ensures.same ∙ ap (λ (v : PlainDeal). v.origin.params) c.self.view_is) in
    ready p c.args.seat c.items.result.now c.in_ok-slots.slots c.point_of.result c.items.ensures c.in_ok-slots.ensures.slots c.point_of.ensures (subst (λ q. IsTrue (fits q c.args.seat)) same c.requires)

pub keys_of-requires : goal.keys_of-requires
keys_of-requires c =
    let p : Params = c.params-params.result.now in
    let same : c.args.self.now.origin.params ≡ p = sym (c.params-params.ensures.same ∙ ap (λ (v : PlainDeal). v.origin.params) c.self.view_is) in
    let sizes : IsTrue (accepted p) = subst (λ q. IsTrue (accepted q)) (sym c.params-params.ensures.same) c.params-params.ensures.whole.sizes in
    clients_ready p c.args.seat c.items-2.result.now c.in_ok-clients.clients c.items-2.ensures c.in_ok-clients.ensures sizes (subst (λ q. IsTrue (fits q c.args.seat)) same c.requires)

pub returns-clause-hand : goal.returns-clause-hand
returns-clause-hand c =
    let o : Origin = record { params = c.params-params.result.now; seed = c.self.inside.seed } in
    let deal : record { origin = o; starts = c.self.inside.starts } ≡ c.args.self.now =
    ap (λ (q : Params). record { origin = record { params = q; seed = c.self.inside.seed }; starts = c.self.inside.starts }) c.params-params.ensures.same ∙ c.self.view_is in
    c.new.ensures
    ∙ hand_made o c.self.inside.starts c.args.seat c.point_of.result c.in_ok-slots.slots c.in_ok-clients.clients c.in_ok-held.held c.in_ok-keys.keys c.in_ok-starts.starts
    c.point_of.ensures c.in_ok-slots.ensures.slots c.in_ok-clients.ensures
    (c.in_ok-held.ensures ∙ ap (map (held_at o c.point_of.result)) c.items.ensures)
    (c.in_ok-keys.ensures ∙ ap (map (key_of o)) c.items-2.ensures)
    (c.in_ok-starts.ensures ∙ ap (starts_of c.args.seat) c.items-3.ensures)
    ∙ ap (λ (d : PlainDeal). hand_of d c.args.seat) deal

pub returns-clause-own : goal.returns-clause-own
returns-clause-own c = λ slot fit own.
    let o : Origin = c.args.self.now.origin in
    ap (λ (h : PlainHand). values_in h.held slot) (returns-clause-hand c)
    ∙ own_values o.params c.args.seat (held_of o c.args.seat) slot c.requires (λ s. refl) fit own

pub returns-clause-others : goal.returns-clause-others
returns-clause-others c = λ slot other.
    let o : Origin = c.args.self.now.origin in
    ap (λ (h : PlainHand). values_in h.held slot) (returns-clause-hand c)
    ∙ other_values o.params c.args.seat (held_of o c.args.seat) slot c.requires (λ s. refl) other
