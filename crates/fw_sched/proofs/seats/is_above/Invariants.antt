-- What holds while the loop of `is_above` runs.
use Rattle.std.proofs.Common.{◌≡◌, true, nat_lt, take}
use Rattle.std.specs.List.{list_all}
use Rattle.fw_base.specs.Seats.{seat_index}
use Rattle.fw_sched.proofs.seats.is_above.Given as goal

-- those so far are before the seat
abbrev pub invariant-loop-other : goal.invariant-loop-other
invariant-loop-other l = list_all (λ s. nat_lt (seat_index l.params s) (seat_index l.params l.fn.seat)) (take l.other-index l.before) ≡ true
