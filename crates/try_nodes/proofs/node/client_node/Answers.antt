-- The hand is the client's.
use Rattle.std.proofs.Common.{◌∙◌, sym, subst}
use Rattle.fw_base.specs.declared.seat.Seat.TheVariants as seats
use Rattle.fw_deal.specs.Deals.{hand_of}
use Rattle.fw_client.specs.Standing.{IsClients, number_of}
use Rattle.fw_cores.proofs.Dealt.{is_clients}
use Rattle.try_nodes.proofs.node.client_node.Goals as goal

pub new-requires : goal.new-requires
new-requires c =
    let deal = c.args.deal.now in
    let hand = hand_of deal (seats.Client c.args.k) in
    subst (λ h. IsClients c.params.result.now (number_of h.seat) h) (sym c.in_ok-hand.ensures.hand)
    (subst (λ p. IsClients p c.args.k hand) (sym (c.params.ensures.same ∙ c.directory.ensures.sizes))
    (is_clients deal c.directory.result.now c.args.k c.requires.sizes c.requires.starts c.directory.ensures c.requires.fits))
