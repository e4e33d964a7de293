-- Those of the notes.
use Rattle.std.proofs.Common.{List, ap, ◌∙◌}
use Rattle.fw_base.specs.declared.seat.Seat.{Seat}
use Rattle.fw_step.specs.Fitting.{is_correct}
use Rattle.fw_pool.specs.Notes.{log_of}
use Rattle.fw_pool.specs.Counts.{submissions}
use Rattle.fw_pool.proofs.pool.Pool.submissions.Goals as goal

pub returns : goal.returns
returns c =
    c.submissions.ensures c.self.inside.frames.items
    ∙ ap (λ (faulty : List Seat). submissions (is_correct c.self.inside.params faulty) (log_of c.self.inside.frames.items c.self.inside.log)) c.items.ensures
    ∙ ap (λ p. submissions (is_correct p.params p.faulty) p.trace.log) c.self.view_is
