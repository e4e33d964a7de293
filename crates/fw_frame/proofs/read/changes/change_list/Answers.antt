use Rattle.std.proofs.Common.{arith, inr, ap, length, length-append}
use Rattle.std.proofs.lemmas.List.{map_push, length-map}
use Rattle.fw_frame.specs.Plain.{plain_change}
use Rattle.fw_frame.proofs.Lists.{no_item, one_more, all_read}
use Rattle.fw_frame.specs.Needing.{StartsChange}
use Rattle.fw_frame.proofs.Beginning.{front, front_found, on_err}
use Rattle.fw_frame.proofs.read.changes.change_list.Goals as goal

pub returns-in_default-clause-found : goal.returns-in_default-clause-found
returns-in_default-clause-found c = no_item (λ x h. omega arith) c.loop.invariant.so_far (omega (arith, length-map c.loop.changes plain_change)) (rw c.in_default.is at c.in_ok-change.ensures.found)

pub loop-preserved : goal.loop-preserved
loop-preserved c = record {
  count = omega (arith, simp length-append at (ap length c.in_ok-push.ensures.ok));
  so_far =
      rw c.in_ok-push.ensures.ok (rw (map_push plain_change c.loop.changes c.in-Some.change)
      (one_more c.loop.invariant.so_far (omega (arith, length-map c.loop.changes plain_change)) (rw c.in-Some.is at c.in_ok-change.ensures.found)));
}

pub returns-clause-found : goal.returns-clause-found
returns-clause-found c = all_read (λ x h. omega arith) c.loop.invariant.so_far (omega (arith, length-map c.loop.changes plain_change))

pub returns-in_err-change-clause-memory : goal.returns-in_err-change-clause-memory
returns-in_err-change-clause-memory c = on_err c.from_residual.result (front (StartsChange c.args.params.now c.args.view c.args.view) c.loop.invariant.so_far (inr c.in_err-change.ensures.memory))

pub returns-in_err-push-clause-memory : goal.returns-in_err-push-clause-memory
returns-in_err-push-clause-memory c = on_err c.from_residual-in_err-push.result (front_found (StartsChange c.args.params.now c.args.view c.args.view) c.loop.invariant.so_far (rw c.in-Some.is at c.in_ok-change.ensures.found))
