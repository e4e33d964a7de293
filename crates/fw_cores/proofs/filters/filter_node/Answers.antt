-- The hand is the filter's, and the node is new.
use Rattle.std.proofs.Common.{◌≡◌, refl, sym, ap, ◌∙◌, subst}
use Rattle.fw_base.specs.declared.seat.Seat.TheVariants as seats
use Rattle.fw_trace.specs.Filter.{filter_role}
use Rattle.fw_trace.specs.Role.{sends}
use Rattle.fw_deal.specs.Deals.{hand_of}
use Rattle.fw_filter.specs.Standing.{IsFilters, row_in, column_in, speech_of}
use Rattle.fw_cores.proofs.filters.filter_node.Goals as goal

pub new-requires : goal.new-requires
new-requires c =
    let deal = c.args.deal.now in
    let hand = hand_of deal (seats.Filter c.args.row c.args.column) in
    subst (λ h. IsFilters c.params.result.now (row_in h.seat) (column_in h.seat) h) (sym c.in_ok-hand.ensures.hand)
    (subst (λ p. IsFilters p c.args.row c.args.column hand) (sym (c.params.ensures.same ∙ c.directory.ensures.sizes))
    (record { sizes = c.requires.sizes; row = c.requires.row; column = c.requires.column; seat = refl }))

pub returns : goal.returns
returns c =
    let deal = c.args.deal.now in
    let node = c.in_ok-node.node in
    let hand : node.hand ≡ hand_of deal (seats.Filter c.args.row c.args.column) = c.in_ok-node.ensures.hand.0 ∙ c.in_ok-hand.ensures.hand in
    let row : node.row ≡ c.args.row = c.in_ok-node.ensures.hand.1 ∙ ap (λ h. row_in h.seat) c.in_ok-hand.ensures.hand in
    let column : node.column ≡ c.args.column = c.in_ok-node.ensures.hand.2 ∙ ap (λ h. column_in h.seat) c.in_ok-hand.ensures.hand in
    record {
      sizes = c.in_ok-node.ensures.params ∙ c.params.ensures.same ∙ c.directory.ensures.sizes;
      seat_is = c.in_ok-node.ensures.own ∙ ap (λ h. h.seat) c.in_ok-hand.ensures.hand;
      has = hand;
      goes_by = λ d h.
          ap (λ r. sends (filter_role (speech_of r node.column node.hand d)) h) row
          ∙ ap (λ k. sends (filter_role (speech_of c.args.row k node.hand d)) h) column
          ∙ ap (λ own. sends (filter_role (speech_of c.args.row c.args.column own d)) h) hand;
      running = c.in_ok-node.ensures.running;
      empty = c.in_ok-node.ensures.stands;
    }
