-- The hand is the agreement node's.
use Rattle.std.proofs.Common.{◌∙◌, sym, subst}
use Rattle.fw_base.specs.declared.seat.Seat.TheVariants as seats
use Rattle.fw_deal.specs.Deals.{hand_of}
use Rattle.fw_act.specs.Doing.{IsAgreements}
use Rattle.fw_agree.specs.Standing.{number_of}
use Rattle.fw_cores.proofs.Dealt.{is_agreements}
use Rattle.try_nodes.proofs.node.agree_node.Goals as goal

pub new-requires : goal.new-requires
new-requires c =
    let deal = c.args.deal.now in
    let hand = hand_of deal (seats.Agree c.args.k) in
    subst (λ h. IsAgreements c.params.result.now (number_of h.seat) h) (sym c.in_ok-hand.ensures.hand)
    (subst (λ p. IsAgreements p c.args.k hand) (sym (c.params.ensures.same ∙ c.directory.ensures.sizes))
    (is_agreements deal c.directory.result.now c.args.k c.requires.sizes c.requires.starts c.directory.ensures c.requires.fits))
