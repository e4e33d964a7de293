-- The hand is the filter's.
use Rattle.std.proofs.Common.{◌∙◌, refl, sym, subst}
use Rattle.fw_base.specs.declared.seat.Seat.TheVariants as seats
use Rattle.fw_deal.specs.Deals.{hand_of}
use Rattle.fw_filter.specs.Standing.{IsFilters, row_in, column_in}
use Rattle.try_nodes.proofs.node.filter_node.Goals as goal

pub new-requires : goal.new-requires
new-requires c =
    let deal = c.args.deal.now in
    let hand = hand_of deal (seats.Filter c.args.row c.args.column) in
    subst (λ h. IsFilters c.params.result.now (row_in h.seat) (column_in h.seat) h) (sym c.in_ok-hand.ensures.hand)
    (subst (λ p. IsFilters p c.args.row c.args.column hand) (sym (c.params.ensures.same ∙ c.directory.ensures.sizes))
    (record { sizes = c.requires.sizes; row = c.requires.row; column = c.requires.column; seat = refl }))
