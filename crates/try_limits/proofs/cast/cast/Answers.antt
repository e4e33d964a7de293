-- There is a new toy for each seat.
use Rattle.std.proofs.Common.{refl, []}
use Rattle.fw_base.specs.declared.seat.Seat.TheVariants.{Agree, Exec, Filter, Client}
use Rattle.fw_fair.specs.Correct.{filter_at, correct_at}
use Rattle.try_limits.specs.declared.cast.TheConstants.{PARAMS}
use Rattle.try_limits.proofs.Casting.{only_seated, only_standing}
use Rattle.try_limits.proofs.cast.cast.Goals as goal

pub returns-clause-seated : goal.returns-clause-seated
returns-clause-seated c = record {
  agree = only_seated PARAMS (Agree 0) (correct_at [] Agree 1) c.in_ok-agree.agree c.in_ok-agree.ensures refl;
  exec = only_seated PARAMS (Exec 0) (correct_at [] Exec 1) c.in_ok-exec.exec c.in_ok-exec.ensures refl;
  filters = only_seated PARAMS (Filter 0 0) (correct_at [] (filter_at PARAMS) 1) c.in_ok-filters.filters c.in_ok-filters.ensures refl;
  clients = only_seated PARAMS (Client 0) (correct_at [] Client 1) c.in_ok-clients.clients c.in_ok-clients.ensures refl;
}

pub returns-clause-fresh : goal.returns-clause-fresh
returns-clause-fresh c = λ d. record {
  agree = only_standing PARAMS (Agree 0) c.in_ok-agree.agree d c.in_ok-agree.ensures;
  exec = only_standing PARAMS (Exec 0) c.in_ok-exec.exec d c.in_ok-exec.ensures;
  filters = only_standing PARAMS (Filter 0 0) c.in_ok-filters.filters d c.in_ok-filters.ensures;
  clients = only_standing PARAMS (Client 0) c.in_ok-clients.clients d c.in_ok-clients.ensures;
}
