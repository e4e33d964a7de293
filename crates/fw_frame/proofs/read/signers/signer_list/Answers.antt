use Rattle.std.proofs.Common.{arith, ap, length, length-append}
use Rattle.std.proofs.lemmas.List.{map_push, length-map}
use Rattle.fw_frame.specs.Plain.{plain_signer}
use Rattle.fw_frame.proofs.Lists.{no_item, one_more, all_read}
use Rattle.fw_frame.proofs.Beginning.{front_found, only_item, on_err}
use Rattle.fw_frame.proofs.read.signers.signer_list.Goals as goal

pub returns-in_default-clause-found : goal.returns-in_default-clause-found
returns-in_default-clause-found c = no_item (λ x h. omega arith) c.loop.invariant.so_far (omega (arith, length-map c.loop.signers plain_signer)) c.in_default.ensures

pub loop-preserved : goal.loop-preserved
loop-preserved c = record {
  count = omega (arith, simp length-append at (ap length c.in_ok-push.ensures.ok));
  so_far =
      rw c.in_ok-push.ensures.ok (rw (map_push plain_signer c.loop.signers c.in-Some.signer)
      (one_more c.loop.invariant.so_far (omega (arith, length-map c.loop.signers plain_signer)) c.in-Some.ensures));
}

pub returns-clause-found : goal.returns-clause-found
returns-clause-found c = all_read (λ x h. omega arith) c.loop.invariant.so_far (omega (arith, length-map c.loop.signers plain_signer))

pub returns-in_err-push-clause-memory : goal.returns-in_err-push-clause-memory
returns-in_err-push-clause-memory c = on_err c.from_residual.result (only_item (front_found (λ _. ⊥) c.loop.invariant.so_far c.in-Some.ensures))
