-- With what is left it will be all.
use Rattle.std.proofs.Common.{◌≡◌, ◌-◌, ◌++◌, map}
use Rattle.fw_list.specs.Lists.{numbers_from}
use Rattle.fw_base.specs.declared.seat.Seat.TheVariants as seats
use Rattle.fw_node.proofs.seats.executor_seats.Given as goal

abbrev pub invariant-loop-k : goal.invariant-loop-k
invariant-loop-k l =
    l.all ++ map seats.Exec (numbers_from l.k (l.k-end - l.k)) ≡ map seats.Exec (numbers_from 0 l.k-end)
