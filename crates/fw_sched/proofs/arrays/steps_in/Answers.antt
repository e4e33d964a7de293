-- What is left to show of `steps_in`.
use Rattle.std.proofs.Common.{arith}
use Rattle.fw_sched.specs.Document.{IsStep}
use Rattle.fw_sched.proofs.Itemwise.{one_more, read_so_far, stops_here}
use Rattle.fw_sched.proofs.arrays.steps_in.Goals as goal

pub overflow_cast-result : goal.overflow_cast-result
overflow_cast-result c =
    let p = c.args.params.now in
    let size = read_so_far (IsStep p c.args.faulty.now) c.args.values.now c.loop-value.value-index c.loop-value.steps (omega arith) c.loop-value.invariant.read in
    omega (arith, size, c.len.ensures)

pub returns-in-None : goal.returns-in-None
returns-in-None c =
    let p = c.args.params.now in
    let none = rw (c.in-None.is, c.text_in.ensures) at (c.in_ok-step.ensures.none c.loop-value.steps c.loop-value.invariant.counts) in
    rw c.len.ensures (stops_here (IsStep p c.args.faulty.now) c.args.values.now c.loop-value.value-index c.value-item.result c.loop-value.steps c.loop-value-test.true c.value-item.is c.loop-value.invariant.read none)

pub loop-value-preserved : goal.loop-value-preserved
loop-value-preserved c =
    let p = c.args.params.now in
    let steps = c.loop-value.steps in
    let found = rw (c.in-Some.is, c.text_in.ensures) at (c.in_ok-step.ensures.found steps c.loop-value.invariant.counts) in
    let counted = c.count.ensures.counts steps c.loop-value.invariant.counts in
    rw c.in_ok-push-in-Some.ensures.ok (record {
      read = one_more (IsStep p c.args.faulty.now) c.args.values.now c.loop-value.value-index c.value-item.result steps c.in-Some.step c.loop-value-test.true c.value-item.is c.loop-value.invariant.read found;
      counts = counted;
      few = λ n below. let more = c.count.ensures.few n below in let so_far = c.loop-value.invariant.few n below in omega (arith, more, so_far);
      eight = c.count.ensures.eight;
    })
