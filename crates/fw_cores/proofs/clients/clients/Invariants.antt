-- There is a new client for each seat so far.
use Rattle.fw_base.specs.declared.seat.Seat.TheVariants as seats
use Rattle.fw_client.specs.Standing.{StandsFor, rule_of}
use Rattle.fw_fair.specs.Correct.{correct_below}
use Rattle.fw_cores.specs.Fresh.{AreFresh}
use Rattle.fw_cores.proofs.clients.clients.Given as goal

abbrev pub invariant-loop-k : goal.invariant-loop-k
invariant-loop-k l = AreFresh (λ n. n.params) (λ n. seats.Client n.client) (λ n. n.hand) rule_of StandsFor (λ n. n.stopped) l.fn.deal seats.Client (correct_below l.faulty seats.Client l.k) l.nodes
