-- None are left.
use Rattle.std.proofs.Common.{◌≡◌, ◌+◌, [], ap, ◌∙◌, drop, length, arith}
use Rattle.std.proofs.lemmas.List.{drop_all}
use Rattle.fw_step.specs.Fitting.{is_correct}
use Rattle.fw_pool.specs.Notes.{log_of}
use Rattle.fw_pool.specs.Counts.{submissions}
use Rattle.fw_pool.proofs.counts.submissions.Goals as goal

pub returns : goal.returns
returns c = λ frames.
    let log = c.args.log.now in
    let none : drop c.loop-k.k log ≡ [] = drop_all c.loop-k.k log (omega (arith, c.loop-k-test.false, c.len-k-end.ensures)) in
    let all : c.loop-k.count + submissions (is_correct c.args.params.now c.args.faulty.now) (log_of frames (drop c.loop-k.k log)) ≡ submissions (is_correct c.args.params.now c.args.faulty.now) (log_of frames log) = c.loop-k.invariant.all frames in
    let left : c.loop-k.count + 0 ≡ submissions (is_correct c.args.params.now c.args.faulty.now) (log_of frames log) = rw none at all in
    omega (arith, left)
