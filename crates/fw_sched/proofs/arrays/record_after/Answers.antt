-- What is left to show of `record_after`.
use Rattle.std.proofs.Common.{◌≡◌, sym, ap, ◌∙◌, arith}
use Rattle.std.proofs.lemmas.Bool.{true≢false}
use Rattle.fw_op.specs.declared.start.Start.{Start}
use Rattle.fw_record.specs.Records.{is_new}
use Rattle.fw_step.proofs.Whole.{small_sizes}
use Rattle.fw_sched.proofs.Verdicts.{same_start}
use Rattle.fw_sched.proofs.arrays.record_after.Goals as goal

pub returns-else-is_new-clause-none : goal.returns-else-is_new-clause-none
returns-else-is_new-clause-none c = λ s is.
    let p = c.args.params.now in
    let found = rw c.in-Some.is at c.in_ok-start.ensures.found in
    let same : s ≡ c.in-Some.start = same_start p.clients s c.in-Some.start (omega (arith, (small_sizes p c.requires).clients)) is.fits found.1 (sym is.spelled ∙ found.0) in
    true≢false (sym is.new ∙ ap (λ (x : Start). is_new c.args.before.now x) same ∙ sym c.if-is_new.ensures)
