-- The run is the plan's, and its report and its laws follow.
use Rattle.std.proofs.Common.{◌≡◌, ap, ◌∙◌, IsTrue}
use Rattle.fw_base.specs.declared.seat.Seat.TheVariants.{Exec}
use Rattle.fw_record.specs.Records.{starts_fit}
use Rattle.fw_sched.specs.declared.plan.Plan.{Plan}
use Rattle.fw_directory.specs.Directories.{PlainDirectory}
use Rattle.fw_deal.specs.Deals.{PlainDeal, IsDirectoryOf, hand_of}
use Rattle.fw_grid.specs.Schedule.{schedule}
use Rattle.fw_law_honest.specs.Laws.{OneDecides, deployed}
use Rattle.fw_world.specs.Plans.{deal_of, IsRunOf}
use Rattle.fw_world.proofs.OwnRun.{with_starts, honest_run}
use Rattle.fw_world.proofs.replaying.replay_counted.Goals as goal

-- one agreement node decides
decides : (p : Plan) (d : PlainDirectory) → IsDirectoryOf (deal_of p).origin d → p.params.f ≡ 0 → IsTrue (starts_fit p.params.clients p.starts) → OneDecides (deal_of p) d
decides p d dealt one starts = record { directory = dealt; one = one; starts = starts }

pub play-requires-clause-deal : goal.play-requires-clause-deal
play-requires-clause-deal g c = c.in_ok-deal.ensures ∙ ap (with_starts c.args.plan) c.items.ensures

pub report_of-requires : goal.report_of-requires
report_of-requires g c =
    let plan = c.args.plan in
    let is : c.in_ok-deal.deal ≡ deal_of plan = c.in_ok-deal.ensures ∙ ap (with_starts plan) c.items.ensures in
    let key : c.in_ok-keys.keys ≡ hand_of (deal_of plan) (Exec 0) = c.in_ok-keys.ensures.hand ∙ ap (λ (x : PlainDeal). hand_of x (Exec 0)) is in
    (deployed (deal_of plan) c.in-Ok.world.seen.directory, (plan.faulty, c.in-Ok.ensures.played c.in_ok-keys.keys key))

pub returns-in-Ok-report_of-clause-ok : goal.returns-in-Ok-report_of-clause-ok
returns-in-Ok-report_of-clause-ok g c =
    let plan = c.args.plan in
    let d = c.in-Ok.world.seen.directory in
    let trace = c.in-Ok.world.seen.trace in
    let is : c.in_ok-deal.deal ≡ deal_of plan = c.in_ok-deal.ensures ∙ ap (with_starts plan) c.items.ensures in
    let key : c.in_ok-keys.keys ≡ hand_of (deal_of plan) (Exec 0) = c.in_ok-keys.ensures.hand ∙ ap (λ (x : PlainDeal). hand_of x (Exec 0)) is in
    let run : IsRunOf plan d trace = c.in-Ok.ensures.run in
    record {
      directory = d;
      trace = trace;
      run = run;
      report = c.in-Ok-report_of.ensures (deployed (deal_of plan) d) plan.faulty (c.in-Ok.ensures.played c.in_ok-keys.keys key);
      accepted = λ one nobody. c.law_accepted.ensures.runs (deal_of plan) d (decides plan d run.dealt one c.requires.starts) (schedule plan.steps) trace (honest_run plan d trace nobody run);
      certificates = λ one nobody. c.law_certificates.ensures.runs (deal_of plan) d (decides plan d run.dealt one c.requires.starts) (schedule plan.steps) trace (honest_run plan d trace nobody run);
    }
