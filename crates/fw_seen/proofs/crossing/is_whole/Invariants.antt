-- All are correct if those that are left are.
use Rattle.std.proofs.Common.{◌≡◌, ◌-◌}
use Rattle.std.specs.Prelude.{not}
use Rattle.std.specs.List.{list_all}
use Rattle.fw_list.specs.Lists.{numbers_from}
use Rattle.fw_base.specs.declared.seat.Seat.TheVariants.{Filter}
use Rattle.fw_step.specs.Fitting.{is_faulty}
use Rattle.fw_seen.proofs.crossing.is_whole.Given as goal

abbrev pub invariant-loop-column : goal.invariant-loop-column
invariant-loop-column l =
    list_all (λ column. not (is_faulty l.faulty (Filter l.row column))) (numbers_from 0 l.column-end) ≡ list_all (λ column. not (is_faulty l.faulty (Filter l.row column))) (numbers_from l.column (l.column-end - l.column))
