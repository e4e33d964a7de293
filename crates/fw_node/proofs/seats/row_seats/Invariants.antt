-- With what is left it will be all.
use Rattle.std.proofs.Common.{◌≡◌, ◌-◌, ◌++◌, map}
use Rattle.fw_list.specs.Lists.{numbers_from}
use Rattle.fw_base.specs.declared.seat.Seat.TheVariants as seats
use Rattle.fw_node.proofs.seats.row_seats.Given as goal

abbrev pub invariant-loop-k : goal.invariant-loop-k
invariant-loop-k l =
    l.all ++ map (seats.Filter l.row) (numbers_from l.k (l.k-end - l.k)) ≡ map (seats.Filter l.row) (numbers_from 0 l.k-end)
