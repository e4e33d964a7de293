-- With what is left it will be all.
use Rattle.std.proofs.Common.{◌≡◌, ◌-◌, ◌++◌, map, nat_eq}
use Rattle.std.specs.Prelude.{filter, not}
use Rattle.fw_list.specs.Lists.{numbers_from}
use Rattle.fw_base.specs.declared.seat.Seat.TheVariants as seats
use Rattle.fw_exec.proofs.own.other_executors.Given as goal

abbrev pub invariant-loop-k : goal.invariant-loop-k
invariant-loop-k l =
    l.others ++ map seats.Exec (filter (λ i. not (nat_eq i l.fn.exec)) (numbers_from l.k (l.k-end - l.k)))
    ≡ map seats.Exec (filter (λ i. not (nat_eq i l.fn.exec)) (numbers_from 0 l.k-end))
