-- What is left to show of `faulty_in`.
use Rattle.std.proofs.Common.{arith}
use Rattle.fw_sched.specs.Document.{IsFaultySeat}
use Rattle.fw_sched.proofs.Itemwise.{one_more, stops_here}
use Rattle.fw_sched.proofs.Counted.{few_seats, few_more, fit_more}
use Rattle.fw_sched.proofs.arrays.faulty_in.Goals as goal

pub overflow_cast-result : goal.overflow_cast-result
overflow_cast-result c =
    let few = few_seats c.args.params.now c.loop-value.seats c.requires.sizes c.loop-value.invariant.fit c.loop-value.invariant.few in
    omega (arith, few, c.len.ensures)

pub returns-in-None : goal.returns-in-None
returns-in-None c =
    let p = c.args.params.now in
    let none = rw (c.items.ensures, c.text_in.ensures) at c.in-None.ensures.none in
    rw c.len.ensures (stops_here (IsFaultySeat p) c.args.values.now c.loop-value.value-index c.value-item.result c.loop-value.seats c.loop-value-test.true c.value-item.is c.loop-value.invariant.read none)

pub loop-value-preserved : goal.loop-value-preserved
loop-value-preserved c =
    let p = c.args.params.now in
    let found = rw (c.items.ensures, c.text_in.ensures) at c.in-Some.ensures.found in
    let seats = c.loop-value.seats in
    rw c.in_ok-push-in-Some.ensures.ok (record {
      read = one_more (IsFaultySeat p) c.args.values.now c.loop-value.value-index c.value-item.result seats c.in-Some.seat c.loop-value-test.true c.value-item.is c.loop-value.invariant.read found;
      fit = fit_more p seats c.in-Some.seat c.loop-value.invariant.fit found.fits;
      few = few_more p seats c.in-Some.seat c.loop-value.invariant.few found.above;
    })
