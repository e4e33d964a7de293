use Rattle.std.proofs.Common.{arith, inr, rules, ap, length, length-append}
use Rattle.std.proofs.lemmas.List.{map_push, length-map}
use Rattle.fw_frame.specs.Plain.{plain_proof}
use Rattle.fw_frame.proofs.Lists.{no_item, one_more, all_read}
use Rattle.fw_frame.proofs.Fields.{proof_low}
use Rattle.fw_frame.specs.Needing.{StartsProof}
use Rattle.fw_frame.proofs.Beginning.{front, front_found, on_err}
use Rattle.fw_frame.proofs.read.proofs.proof_list.Goals as goal

pub returns-in_default-clause-found : goal.returns-in_default-clause-found
returns-in_default-clause-found c = no_item (proof_low c.args.params.now c.args.view) c.loop.invariant.so_far (omega (arith, length-map c.loop.proofs plain_proof)) (rw c.in_default.is at c.in_ok-proof.ensures.found)

pub loop-preserved : goal.loop-preserved
loop-preserved c = record {
  count = omega (arith, simp length-append at (ap length c.in_ok-push.ensures.ok));
  least = search rules;
  so_far =
      rw c.in_ok-push.ensures.ok (rw (map_push plain_proof c.loop.proofs c.in-Some.proof)
      (one_more c.loop.invariant.so_far (omega (arith, length-map c.loop.proofs plain_proof)) (rw c.in-Some.is at c.in_ok-proof.ensures.found)));
}

pub returns-clause-found : goal.returns-clause-found
returns-clause-found c = all_read (proof_low c.args.params.now c.args.view) c.loop.invariant.so_far (omega (arith, length-map c.loop.proofs plain_proof))

pub returns-in_err-proof-clause-memory : goal.returns-in_err-proof-clause-memory
returns-in_err-proof-clause-memory c = on_err c.from_residual.result (front (StartsProof c.args.params.now c.args.view) c.loop.invariant.so_far (inr c.in_err-proof.ensures.memory))

pub returns-in_err-push-clause-memory : goal.returns-in_err-push-clause-memory
returns-in_err-push-clause-memory c = on_err c.from_residual-in_err-push.result (front_found (StartsProof c.args.params.now c.args.view) c.loop.invariant.so_far (rw c.in-Some.is at c.in_ok-proof.ensures.found))
