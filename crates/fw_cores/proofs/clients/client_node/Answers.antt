-- The hand is the client's, and the node is new.
use Rattle.std.proofs.Common.{◌≡◌, sym, ap, ◌∙◌, subst}
use Rattle.fw_base.specs.declared.seat.Seat.TheVariants as seats
use Rattle.fw_trace.specs.Client.{client_role}
use Rattle.fw_trace.specs.Role.{sends}
use Rattle.fw_deal.specs.Deals.{hand_of}
use Rattle.fw_client.specs.Standing.{IsClients, number_of, speech_of}
use Rattle.fw_cores.proofs.Dealt.{is_clients}
use Rattle.fw_cores.proofs.clients.client_node.Goals as goal

pub new-requires : goal.new-requires
new-requires c =
    let deal = c.args.deal.now in
    let hand = hand_of deal (seats.Client c.args.k) in
    subst (λ h. IsClients c.params.result.now (number_of h.seat) h) (sym c.in_ok-hand.ensures.hand)
    (subst (λ p. IsClients p c.args.k hand) (sym (c.params.ensures.same ∙ c.directory.ensures.sizes))
    (is_clients deal c.directory.result.now c.args.k c.requires.sizes c.requires.starts c.directory.ensures c.requires.fits))

pub returns : goal.returns
returns c =
    let deal = c.args.deal.now in
    let node = c.in_ok-node.node in
    let hand : node.hand ≡ hand_of deal (seats.Client c.args.k) = c.in_ok-node.ensures.hand.0 ∙ c.in_ok-hand.ensures.hand in
    let number : node.client ≡ c.args.k = c.in_ok-node.ensures.hand.1 ∙ ap (λ h. number_of h.seat) c.in_ok-hand.ensures.hand in
    record {
      sizes = c.in_ok-node.ensures.params ∙ c.params.ensures.same ∙ c.directory.ensures.sizes;
      seat_is = c.in_ok-node.ensures.own ∙ ap (λ h. h.seat) c.in_ok-hand.ensures.hand;
      has = hand;
      goes_by = λ d h. ap (λ k. sends (client_role (speech_of k node.hand d)) h) number ∙ ap (λ own. sends (client_role (speech_of c.args.k own d)) h) hand;
      running = c.in_ok-node.ensures.running;
      empty = c.in_ok-node.ensures.stands;
    }
