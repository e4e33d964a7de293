-- There is a new filter for each place so far.
use Rattle.fw_base.specs.declared.seat.Seat.TheVariants as seats
use Rattle.fw_fair.specs.Correct.{filter_at, correct_below}
use Rattle.fw_filter.specs.Standing.{StandsFor, rule_of}
use Rattle.fw_cores.specs.Fresh.{AreFresh}
use Rattle.fw_cores.proofs.filters.filters.Given as goal

abbrev pub invariant-loop-place : goal.invariant-loop-place
invariant-loop-place l = AreFresh (λ n. n.params) (λ n. seats.Filter n.row n.column) (λ n. n.hand) rule_of StandsFor (λ n. n.stopped) l.fn.deal (filter_at l.fn.deal.origin.params) (correct_below l.faulty (filter_at l.fn.deal.origin.params) l.place) l.nodes
