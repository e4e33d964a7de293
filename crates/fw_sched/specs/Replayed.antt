-- The plans that can be replayed so far: those in which no lie is told. Faulty seats say nothing there.
use Rattle.std.specs.Prelude.{Bool}
use Rattle.std.specs.List.{list_all}
use Rattle.fw_step.specs.Fitting.{is_honest}
use Rattle.fw_sched.specs.declared.plan.Plan.{Plan}

abbrev pub can_replay : Plan → Bool
can_replay p = list_all is_honest p.steps
