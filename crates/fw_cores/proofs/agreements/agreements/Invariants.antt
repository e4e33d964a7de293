-- There is a new agreement node for each seat so far.
use Rattle.fw_base.specs.declared.seat.Seat.TheVariants as seats
use Rattle.fw_agree.specs.Standing.{StandsFor, rule_of}
use Rattle.fw_fair.specs.Correct.{correct_below}
use Rattle.fw_cores.specs.Fresh.{AreFresh}
use Rattle.fw_cores.proofs.agreements.agreements.Given as goal

abbrev pub invariant-loop-k : goal.invariant-loop-k
invariant-loop-k l = AreFresh (λ n. n.params) (λ n. seats.Agree n.own) (λ n. n.hand) rule_of StandsFor (λ n. n.stopped) l.fn.deal seats.Agree (correct_below l.faulty seats.Agree l.k) l.nodes
