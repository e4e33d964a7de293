use Rattle.std.proofs.Common.{refl, sym, subst, true, false, List, map}
use Rattle.std.specs.Prelude.{flat_map}
use Rattle.fw_text.specs.Texts.{hash}
use Rattle.fw_frame.specs.declared.frame.Proof.{Proof}
use Rattle.fw_frame.specs.declared.frame.Signer.{Signer}
use Rattle.fw_frame.specs.Plain.{plain_proof, plain_signer}
use Rattle.fw_frame.specs.Parts.{proof_pieces}
use Rattle.fw_valid.specs.Checks.{AreVotes}
use Rattle.fw_valid.proofs.Fitting.{proof_at}
use Rattle.fw_valid.proofs.Lists.{itemwise_flat, checks_next, checks_broken, checks_item, checks_proof}
use Rattle.fw_valid.proofs.pieces.check_proofs.Goals as goal

pub check_entry_votes-requires-clause-entry : goal.check_entry_votes-requires-clause-entry
check_entry_votes-requires-clause-entry g c =
    (proof_at c.args.directory.now.params c.args.proofs.now c.loop-proof.proof-index c.proof-item.result c.loop-proof-test.true c.proof-item.is c.requires).entry

pub check_entry_votes-requires-clause-votes : goal.check_entry_votes-requires-clause-votes
check_entry_votes-requires-clause-votes g c =
    let proof = proof_at c.args.directory.now.params c.args.proofs.now c.loop-proof.proof-index c.proof-item.result c.loop-proof-test.true c.proof-item.is c.requires in
    subst (λ (signers : List Signer). AreVotes c.args.directory.now.params c.proof-item.result.view c.proof-item.result.number (map plain_signer signers)) (sym c.items-signers.ensures) proof.votes

pub returns-then-not-check_entry_votes : goal.returns-then-not-check_entry_votes
returns-then-not-check_entry_votes g c =
    let whole = checks_proof c.args.directory.now false c.loop-proof.steps c.check_entry_votes.new.steps c.proof-item.result c.items-signers.result.now c.items-signers.ensures c.if-not-check_entry_votes.ensures in
    let here = checks_item c.args.directory.now 257 false c.loop-proof.steps c.check_entry_votes.new.steps (proof_pieces hash) plain_proof c.args.proofs.now c.loop-proof.proof-index c.proof-item.result c.proof-item.is whole in
    checks_broken c.args.directory.now 257 false c.args.steps.now c.loop-proof.steps c.check_entry_votes.new.steps (λ (xs : List Proof). flat_map (proof_pieces hash) (map plain_proof xs)) c.args.proofs.now c.loop-proof.proof-index c.proof-item.result (itemwise_flat (proof_pieces hash) plain_proof) c.loop-proof-test.true refl c.loop-proof.invariant here

pub loop-proof-preserved : goal.loop-proof-preserved
loop-proof-preserved g c =
    let whole = checks_proof c.args.directory.now true c.loop-proof.steps c.check_entry_votes.new.steps c.proof-item.result c.items-signers.result.now c.items-signers.ensures c.if-not-check_entry_votes.ensures in
    let here = checks_item c.args.directory.now 257 true c.loop-proof.steps c.check_entry_votes.new.steps (proof_pieces hash) plain_proof c.args.proofs.now c.loop-proof.proof-index c.proof-item.result c.proof-item.is whole in
    checks_next c.args.directory.now 257 true c.args.steps.now c.loop-proof.steps c.check_entry_votes.new.steps (λ (xs : List Proof). flat_map (proof_pieces hash) (map plain_proof xs)) c.args.proofs.now c.loop-proof.proof-index c.proof-item.result (itemwise_flat (proof_pieces hash) plain_proof) c.loop-proof-test.true refl c.loop-proof.invariant here
