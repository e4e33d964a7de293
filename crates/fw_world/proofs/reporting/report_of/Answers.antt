-- The report is that of the summary of these parts.
use Rattle.std.proofs.Common.{ap, ◌∙◌}
use Rattle.fw_report.specs.Report.{report_text}
use Rattle.fw_world.proofs.Parts.{parts_of}
use Rattle.fw_world.proofs.reporting.report_of.Goals as goal

pub returns : goal.returns
returns g c = λ d faulty played.
    let world = c.args.world.now.seen in
    c.in_ok-text.ensures
    ∙ ap report_text (c.in_ok-summary.ensures d faulty world.trace
    (parts_of (λ n. n.hand) d faulty world c.args.keys.now c.directory.result.now c.faulty.result.now c.clients.result.now c.frames.result.now (record { submissions = c.submissions.result; events = c.events.result; rest = c.is_at_rest.result; view = c.greatest_view.result })
    played c.directory.ensures c.faulty.ensures c.clients.ensures.nodes c.clients.ensures.seated c.clients.ensures.standing c.frames.ensures.frames c.submissions.ensures c.events.ensures c.is_at_rest.ensures.test (c.greatest_view.ensures d faulty c.args.keys.now played)))
