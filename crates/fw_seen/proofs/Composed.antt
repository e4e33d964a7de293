-- A summary is made of its parts.
use Rattle.std.proofs.Common.{◌≡◌, ℕ, ◌-◌, Bool, List, length, refl, sym, ap, ◌∙◌}
use Rattle.fw_base.specs.declared.seat.Seat.{Seat}
use Rattle.fw_base.specs.declared.seat.Seat.TheVariants.{Exec}
use Rattle.fw_step.specs.Fitting.{is_correct}
use Rattle.fw_fair.specs.Correct.{whole_rows}
use Rattle.fw_fair.specs.Hostile.{rules_among}
use Rattle.fw_op.specs.declared.op.Op.{Op}
use Rattle.fw_trace.specs.Trace.{Trace, rests_from}
use Rattle.fw_rules.specs.World.{Deployed, rule_at, agreed}
use Rattle.fw_report.specs.declared.summary.AgreedLine.{AgreedLine}
use Rattle.fw_report.specs.declared.summary.AcceptLine.{AcceptLine}
use Rattle.fw_report.specs.declared.summary.CrossLine.{CrossLine}
use Rattle.fw_report.specs.declared.summary.Summary.{Summary}
use Rattle.fw_pool.specs.Counts.{submissions}
use Rattle.fw_seen.specs.Summary.{agreed_lines, accept_lines, cross_lines, correct_clients, greatest_view, summary_of}
use Rattle.fw_seen.proofs.Submitted.{waiting_in_all}

pub summary_is : (d : Deployed) (faulty : List Seat) (t : Trace (List ℕ) Op) (agreed_part : List AgreedLine) (accepted : List AcceptLine) (cross : List CrossLine) (waiting : ℕ) (rest : Bool) (view events frames : ℕ)
    → agreed_part ≡ agreed_lines (d.hand (Exec 0)) 1 (agreed d t) → accepted ≡ accept_lines d t (correct_clients d faulty) → cross ≡ cross_lines d.directory.params t.pool (whole_rows d.directory.params faulty)
    → waiting ≡ submissions (is_correct d.directory.params faulty) t.log - length accepted → rest ≡ rests_from (rules_among d.directory.params faulty (rule_at d)) t.log 0 t.pool → view ≡ greatest_view d faulty t → events ≡ length t.log → frames ≡ length t.pool
    → ◌≡◌ {A = Summary} (record { agreed = agreed_part; accepted = accepted; cross = cross; waiting = waiting; rest = rest; view = view; events = events; frames = frames }) (summary_of d faulty t)
unfolding summary_of
summary_is d faulty t agreed_part accepted cross waiting rest view events frames e1 e2 e3 e4 e5 e6 e7 e8 =
    let waits = e4 ∙ ap (λ (ls : List AcceptLine). submissions (is_correct d.directory.params faulty) t.log - length ls) e2 ∙ sym (waiting_in_all d faulty t) in
    rw (e1, waits, e2, e3, e5, e6, e7, e8) refl
