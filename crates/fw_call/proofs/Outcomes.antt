-- A plan's run has one outcome.
use Rattle.std.proofs.Common.{◌≡◌, ℕ, Ok, Err, sym, ◌∙◌, subst}
use Rattle.std.specs.Prelude.{Result, List}
use Rattle.fw_op.specs.declared.op.Op.{Op}
use Rattle.fw_sched.specs.declared.plan.Plan.{Plan}
use Rattle.fw_trace.specs.Trace.{Trace}
use Rattle.fw_trace.specs.Run as runs
use Rattle.fw_directory.specs.Directories.{PlainDirectory}
use Rattle.fw_deal.specs.Deals.{IsDirectoryOf}
use Rattle.fw_rules.specs.declared.limits.Which.{Which}
use Rattle.fw_fair.specs.Hostile.{silent}
use Rattle.fw_law_directory.proofs.OneDirectory.{one_directory}
use Rattle.fw_grid.specs.Schedule.{schedule}
use Rattle.fw_world.specs.Plans.{deal_of, deployment_of, FailsAt, IsWithin}

abbrev Outcome : Type 0
Outcome = Result (Trace (List ℕ) Op) (ℕ × Which)

abbrev outcome : Plan → PlainDirectory → Outcome
outcome p d = runs.run (silent (deployment_of p d)) (schedule p.steps)

same_outcome : (p : Plan) (d e : PlainDirectory) (one other : Outcome) → IsDirectoryOf (deal_of p).origin d → IsDirectoryOf (deal_of p).origin e → outcome p d ≡ one → outcome p e ≡ other → one ≡ other
same_outcome p d e one other first second run again =
    sym run ∙ subst (λ x. outcome p x ≡ other) (sym (one_directory (deal_of p).origin d e first second)) again

no_trace : (t : Trace (List ℕ) Op) (f : ℕ × Which) → ◌≡◌ {A = Outcome} (Ok t) (Err f) → ⊥
no_trace t f e = cc

pub within_or_fails : (p : Plan) (step : ℕ) (which : Which) → IsWithin p → FailsAt p step which → ⊥
within_or_fails p step which within fails =
    no_trace within.trace (step, which) (same_outcome p within.directory fails.directory (Ok within.trace) (Err (step, which)) within.run.dealt fails.dealt within.run.run fails.run)

same_pair : (a b : ℕ × Which) → ◌≡◌ {A = Outcome} (Err a) (Err b) → a ≡ b
same_pair a b e = cc

pub one_fault : (p : Plan) (step other : ℕ) (which kind : Which) → FailsAt p step which → FailsAt p other kind → ◌≡◌ {A = ℕ × Which} (step, which) (other, kind)
one_fault p step other which kind one two =
    same_pair (step, which) (other, kind) (same_outcome p one.directory two.directory (Err (step, which)) (Err (other, kind)) one.dealt two.dealt one.run two.run)
