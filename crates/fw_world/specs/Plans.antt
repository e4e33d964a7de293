-- The run of a plan: its deal, the deployment of that deal, and the events of its steps.
use Rattle.std.specs.Prelude.{◌≡◌, ℕ, List, Ok, Err}
use Rattle.fw_op.specs.declared.op.Op.{Op}
use Rattle.fw_sched.specs.declared.plan.Plan.{Plan}
use Rattle.fw_trace.specs.Trace.{Trace}
use Rattle.fw_trace.specs.Run as runs
use Rattle.fw_directory.specs.Directories.{PlainDirectory}
use Rattle.fw_deal.specs.Deals.{PlainDeal, IsDirectoryOf}
use Rattle.fw_rules.specs.declared.limits.Which.{Which}
use Rattle.fw_fair.specs.Hostile.{Hostile, silent}
use Rattle.fw_grid.specs.Schedule.{schedule}

-- the deal of a plan's sizes, seed and records
abbrev pub deal_of : Plan → PlainDeal
deal_of p = record { origin = record { params = p.params; seed = p.seed }; starts = p.starts }

-- its deployment: the deal, the deal's directory, and the faulty seats
abbrev pub deployment_of : Plan → PlainDirectory → Hostile
deployment_of p d = record { deal = deal_of p; directory = d; faulty = p.faulty }

-- the trace is that of the plan's run, in its deployment, whose directory this is
pub record IsRunOf (p : Plan) (d : PlainDirectory) (t : Trace (List ℕ) Op) : Type 0 where
  pub dealt : IsDirectoryOf (deal_of p).origin d
  pub run : runs.run (silent (deployment_of p d)) (schedule p.steps) ≡ Ok t

-- the plan's run fails at a step: too many frames would be sent, or too many bytes
pub record FailsAt (p : Plan) (step : ℕ) (which : Which) : Type 0 where
  pub directory : PlainDirectory
  pub dealt : IsDirectoryOf (deal_of p).origin directory
  pub run : runs.run (silent (deployment_of p directory)) (schedule p.steps) ≡ Err (step, which)

-- it fails at no step
pub record IsWithin (p : Plan) : Type 0 where
  pub directory : PlainDirectory
  pub trace : Trace (List ℕ) Op
  pub run : IsRunOf p directory trace
