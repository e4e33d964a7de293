-- The hand is the agreement node's, and the node is new.
use Rattle.std.proofs.Common.{◌≡◌, sym, ap, ◌∙◌, subst}
use Rattle.fw_base.specs.declared.seat.Seat.TheVariants as seats
use Rattle.fw_rules.specs.Views.{agree_role}
use Rattle.fw_trace.specs.Role.{sends}
use Rattle.fw_deal.specs.Deals.{hand_of}
use Rattle.fw_kept.specs.Kept.{self_of}
use Rattle.fw_act.specs.Doing.{IsAgreements}
use Rattle.fw_agree.specs.Standing.{number_of}
use Rattle.fw_cores.proofs.Dealt.{is_agreements}
use Rattle.fw_cores.proofs.agreements.agree_node.Goals as goal

pub new-requires : goal.new-requires
new-requires c =
    let deal = c.args.deal.now in
    let hand = hand_of deal (seats.Agree c.args.k) in
    subst (λ h. IsAgreements c.params.result.now (number_of h.seat) h) (sym c.in_ok-hand.ensures.hand)
    (subst (λ p. IsAgreements p c.args.k hand) (sym (c.params.ensures.same ∙ c.directory.ensures.sizes))
    (is_agreements deal c.directory.result.now c.args.k c.requires.sizes c.requires.starts c.directory.ensures c.requires.fits))

pub returns : goal.returns
returns c =
    let deal = c.args.deal.now in
    let node = c.in_ok-node.node in
    let hand : node.hand ≡ hand_of deal (seats.Agree c.args.k) = c.in_ok-node.ensures.hand.0 ∙ c.in_ok-hand.ensures.hand in
    let number : node.own ≡ c.args.k = c.in_ok-node.ensures.hand.1 ∙ ap (λ h. number_of h.seat) c.in_ok-hand.ensures.hand in
    record {
      sizes = c.in_ok-node.ensures.params ∙ c.params.ensures.same ∙ c.directory.ensures.sizes;
      seat_is = c.in_ok-node.ensures.own ∙ ap (λ h. h.seat) c.in_ok-hand.ensures.hand;
      has = hand;
      goes_by = λ d h. ap (λ k. sends (agree_role (self_of d node.hand k)) h) number ∙ ap (λ own. sends (agree_role (self_of d own c.args.k)) h) hand;
      running = c.in_ok-node.ensures.running;
      empty = c.in_ok-node.ensures.stands;
    }
