-- What is left to show of `starts_in`.
use Rattle.std.proofs.Common.{arith}
use Rattle.fw_sched.specs.Document.{IsRecord}
use Rattle.fw_sched.proofs.Itemwise.{one_more, read_so_far, stops_here}
use Rattle.fw_sched.proofs.arrays.starts_in.Goals as goal

pub overflow_cast-result : goal.overflow_cast-result
overflow_cast-result c =
    let p = c.args.params.now in
    let values = c.args.values.now in
    let size = read_so_far (IsRecord p) values c.loop-value.value-index c.loop-value.starts (omega arith) c.loop-value.invariant in
    omega (arith, size, c.len.ensures)

pub returns-in-None : goal.returns-in-None
returns-in-None c =
    let p = c.args.params.now in
    let none = rw (c.in-None.is, c.items.ensures, c.text_in.ensures) at c.in_ok-start.ensures.none in
    rw c.len.ensures (stops_here (IsRecord p) c.args.values.now c.loop-value.value-index c.value-item.result c.loop-value.starts c.loop-value-test.true c.value-item.is c.loop-value.invariant none)

pub loop-value-preserved : goal.loop-value-preserved
loop-value-preserved c =
    let p = c.args.params.now in
    let found = rw (c.in-Some.is, c.items.ensures, c.text_in.ensures) at c.in_ok-start.ensures.found in
    rw c.in_ok-push-in-Some.ensures.ok
    (one_more (IsRecord p) c.args.values.now c.loop-value.value-index c.value-item.result c.loop-value.starts c.in-Some.start c.loop-value-test.true c.value-item.is c.loop-value.invariant found)
