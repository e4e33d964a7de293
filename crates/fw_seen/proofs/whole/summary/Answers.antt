-- The summary is made of its parts.
use Rattle.std.proofs.Common.{◌≡◌, ◌∙◌, ◌-◌, List, ℕ, ap, ap₂, sym, length}
use Rattle.fw_base.specs.declared.params.Params.{Params}
use Rattle.fw_base.specs.declared.seat.Seat.{Seat}
use Rattle.fw_base.specs.declared.seat.Seat.TheVariants.{Exec}
use Rattle.fw_fair.specs.Correct.{whole_rows}
use Rattle.fw_trace.specs.declared.Sent.{Sent}
use Rattle.fw_trace.specs.Run.{agreed_list}
use Rattle.fw_directory.specs.Directories.{PlainDirectory}
use Rattle.fw_hand.specs.Hands.{PlainHand}
use Rattle.fw_rules.specs.World.{agreed_in}
use Rattle.fw_seen.specs.Summary.{agreed_lines, cross_lines, correct_clients}
use Rattle.fw_seen.proofs.Composed.{summary_is}
use Rattle.fw_seen.proofs.whole.summary.Goals as goal

pub returns : goal.returns
returns g c = λ d wrong t parts.
    let accepted : c.accepted.inside.inside.items ≡ c.in_ok-accepted.accepted = c.accepted.view_is in
    summary_is d wrong t c.in_ok-agreed_lines.field-0 c.accepted.inside.inside.items c.in_ok-cross_lines.field-0 c.in_ok-as_u32.field-0 c.args.counts.rest c.args.counts.view c.in_ok-as_u32-2.field-0 c.in_ok-as_u32-3.field-0
    (c.in_ok-agreed_lines.ensures
    ∙ ap (λ (hand : PlainHand). agreed_lines hand 1 (agreed_list (agreed_in c.args.directory.now) c.args.pool.now)) parts.keys
    ∙ ap₂ (λ (e : PlainDirectory) (pool : List (Sent (List ℕ))). agreed_lines (d.hand (Exec 0)) 1 (agreed_list (agreed_in e) pool)) parts.directory parts.pool)
    (accepted ∙ c.in_ok-accepted.ensures d t (correct_clients d wrong) parts.clients)
    (c.in_ok-cross_lines.ensures
    ∙ ap₂ (λ (p : Params) (pool : List (Sent (List ℕ))). cross_lines p pool (whole_rows p c.args.faulty.now)) (c.params.ensures.same ∙ ap (λ (e : PlainDirectory). e.params) parts.directory) parts.pool
    ∙ ap (λ (f : List Seat). cross_lines d.directory.params t.pool (whole_rows d.directory.params f)) parts.faulty_seats)
    (c.in_ok-as_u32.ensures ∙ c.saturating_sub-waiting.ensures ∙ ap₂ (λ (a b : ℕ). a - b) parts.submissions (c.len.ensures ∙ ap length (sym accepted)))
    parts.rest
    parts.view
    (c.in_ok-as_u32-2.ensures ∙ parts.events)
    (c.in_ok-as_u32-3.ensures ∙ ap length parts.pool)
