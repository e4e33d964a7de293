-- With what is left it will be all.
use Rattle.std.proofs.Common.{◌≡◌, ◌-◌, ◌++◌, map, filter}
use Rattle.fw_list.specs.Lists.{numbers_from}
use Rattle.fw_base.specs.declared.seat.Seat.TheVariants as seats
use Rattle.fw_act.proofs.Others.{but}
use Rattle.fw_act.proofs.sending.other_agreements.Given as goal

abbrev pub invariant-loop-k : goal.invariant-loop-k
invariant-loop-k l =
    l.all ++ map seats.Agree (filter (but l.own) (numbers_from l.k (l.k-end - l.k))) ≡ map seats.Agree (filter (but l.own) (numbers_from 0 l.k-end))
