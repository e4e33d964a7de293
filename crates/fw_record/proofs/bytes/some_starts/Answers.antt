-- Records one after another.
use Rattle.std.proofs.Common.{arith, ap, length, length-append}
use Rattle.fw_op.specs.declared.start.Start.{Start}
use Rattle.fw_record.proofs.Lists.{no_item, one_more, all_read, begins, on_err}
use Rattle.fw_record.proofs.bytes.some_starts.Goals as goal

pub returns-in_default-clause-found : goal.returns-in_default-clause-found
returns-in_default-clause-found c = no_item c.loop.invariant.so_far (omega arith) c.in_default.ensures

pub returns-in_err-own-clause-memory : goal.returns-in_err-own-clause-memory
returns-in_err-own-clause-memory c = on_err c.from_residual.result (begins c.loop.invariant.so_far c.in-Some.ensures)

pub returns-in_err-push-clause-memory : goal.returns-in_err-push-clause-memory
returns-in_err-push-clause-memory c = on_err c.from_residual-in_err-push.result (begins c.loop.invariant.so_far c.in-Some.ensures)

pub loop-preserved : goal.loop-preserved
loop-preserved c = record {
  count = omega (arith, ap length c.in_ok-push.ensures.ok, length-append {A = Start});
  so_far = rw (c.in_ok-push.ensures.ok, c.in_ok-own.ensures) (one_more c.loop.invariant.so_far c.in-Some.ensures);
}

pub returns-clause-found : goal.returns-clause-found
returns-clause-found c = all_read c.loop.invariant.so_far (omega arith)
