-- What a replay of a plan gives.
use Rattle.std.specs.Prelude.{◌≡◌, ℕ, List, []}
use Rattle.fw_op.specs.declared.op.Op.{Op}
use Rattle.fw_sched.specs.declared.plan.Plan.{Plan}
use Rattle.fw_trace.specs.Trace.{Trace}
use Rattle.fw_directory.specs.Directories.{PlainDirectory}
use Rattle.fw_law_honest.specs.Laws.{deployed, AcceptsAnswers, LetsDownCertificates}
use Rattle.fw_seen.specs.Summary.{report_of}
use Rattle.fw_world.specs.Plans.{deal_of, IsRunOf}

-- the text is the report of the plan's run; where one agreement node decides and nobody is faulty, each reply that a client accepted is the reference
-- service's at its number of the agreed list, and what the filters sent downwards are certificates of that list
pub record IsReportOf (p : Plan) (text : List ℕ) : Type 0 where
  pub directory : PlainDirectory
  pub trace : Trace (List ℕ) Op
  pub run : IsRunOf p directory trace
  pub report : text ≡ report_of (deployed (deal_of p) directory) p.faulty trace
  pub accepted : p.params.f ≡ 0 → p.faulty ≡ [] → AcceptsAnswers (deal_of p) directory trace
  pub certificates : p.params.f ≡ 0 → p.faulty ≡ [] → LetsDownCertificates (deal_of p) directory trace
