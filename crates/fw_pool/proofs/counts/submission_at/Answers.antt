-- One input of the log.
use Rattle.std.proofs.Common.{◌∙◌, sym, true, false, arith}
use Rattle.fw_step.specs.Fitting.{is_correct}
use Rattle.fw_pool.proofs.Counting.{submissions_more, none_inside}
use Rattle.fw_pool.proofs.counts.submission_at.Goals as goal

pub returns-then-is_submission-clause-rest : goal.returns-then-is_submission-clause-rest
returns-then-is_submission-clause-rest c = λ frames.
    let more = submissions_more (is_correct c.args.params.now c.args.faulty.now) frames c.args.log.now c.args.k c.in-Some.note.now true (sym c.in-Some.ensures) (sym (c.is_submission.ensures frames) ∙ c.if-is_submission.true) in
    omega (arith, more)

pub returns-else-is_submission-clause-rest : goal.returns-else-is_submission-clause-rest
returns-else-is_submission-clause-rest c = λ frames.
    let more = submissions_more (is_correct c.args.params.now c.args.faulty.now) frames c.args.log.now c.args.k c.in-Some.note.now false (sym c.in-Some.ensures) (sym (c.is_submission.ensures frames) ∙ c.if-is_submission.false) in
    omega (arith, more)

pub returns-in-None-clause-rest : goal.returns-in-None-clause-rest
returns-in-None-clause-rest c = absurd (none_inside c.args.log.now c.args.k c.requires.place c.in-None.ensures)
