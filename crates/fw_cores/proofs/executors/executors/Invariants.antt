-- There is a new executor for each seat so far.
use Rattle.fw_base.specs.declared.seat.Seat.TheVariants as seats
use Rattle.fw_exec.specs.Standing.{StandsFor, rule_of}
use Rattle.fw_fair.specs.Correct.{correct_below}
use Rattle.fw_cores.specs.Fresh.{AreFresh}
use Rattle.fw_cores.proofs.executors.executors.Given as goal

abbrev pub invariant-loop-k : goal.invariant-loop-k
invariant-loop-k l = AreFresh (λ n. n.params) (λ n. seats.Exec n.exec) (λ n. n.hand) rule_of StandsFor (λ n. n.stopped) l.fn.deal seats.Exec (correct_below l.faulty seats.Exec l.k) l.nodes
