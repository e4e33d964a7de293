use Rattle.std.proofs.Common.{refl, sym, subst, List, false, true, IsTrue, [], get_or, map}
use Rattle.fw_base.specs.Places.{slot_fits}
use Rattle.fw_text.specs.Texts.{Voted}
use Rattle.fw_frame.specs.declared.frame.Signer.{Signer}
use Rattle.fw_frame.specs.Plain.{plain_signer}
use Rattle.fw_frame.specs.Parts.{signer_piece}
use Rattle.fw_valid.proofs.Fitting.{vote_at}
use Rattle.fw_valid.proofs.Joining.{checks_signer}
use Rattle.fw_valid.proofs.Lists.{itemwise_map, checks_next, checks_broken}
use Rattle.fw_valid.proofs.pieces.check_signers.Goals as goal

abbrev none : Signer
none = record { agree = 0; sig = record { ref_ptr = (0, 0); now = [] } }

pub check_part-requires-clause-slot : goal.check_part-requires-clause-slot
check_part-requires-clause-slot g c =
    let vote = vote_at c.args.directory.now.params c.args.phase c.args.view c.args.number plain_signer c.args.signers.now c.loop-signer.signer-index none c.loop-signer-test.true c.requires in
    subst (λ slot. IsTrue (slot_fits c.args.directory.now.params slot)) (sym c.vote_slot-slot.ensures) vote.in_slots

pub check_part-requires-clause-values : goal.check_part-requires-clause-values
check_part-requires-clause-values g c =
    (vote_at c.args.directory.now.params c.args.phase c.args.view c.args.number plain_signer c.args.signers.now c.loop-signer.signer-index none c.loop-signer-test.true c.requires).whole

pub returns-then-not-check_part : goal.returns-then-not-check_part
returns-then-not-check_part g c = λ entry same.
    let piece = signer_piece c.args.phase c.args.view c.args.number entry in
    let here = checks_signer c.args.directory.now false c.loop-signer.steps c.check_part.new.steps c.args.phase c.args.view c.args.number entry (plain_signer (get_or c.args.signers.now c.loop-signer.signer-index none)) c.vote_slot-slot.result c.vote_slot-slot.ensures (c.if-not-check_part.ensures (Voted c.args.phase c.args.view c.args.number entry) same) in
    checks_broken c.args.directory.now 256 false c.args.steps.now c.loop-signer.steps c.check_part.new.steps (λ (xs : List Signer). map piece (map plain_signer xs)) c.args.signers.now c.loop-signer.signer-index none (itemwise_map piece plain_signer) c.loop-signer-test.true refl (c.loop-signer.invariant entry same) here

pub loop-signer-preserved : goal.loop-signer-preserved
loop-signer-preserved g c = λ entry same.
    let piece = signer_piece c.args.phase c.args.view c.args.number entry in
    let here = checks_signer c.args.directory.now true c.loop-signer.steps c.check_part.new.steps c.args.phase c.args.view c.args.number entry (plain_signer (get_or c.args.signers.now c.loop-signer.signer-index none)) c.vote_slot-slot.result c.vote_slot-slot.ensures (c.if-not-check_part.ensures (Voted c.args.phase c.args.view c.args.number entry) same) in
    checks_next c.args.directory.now 256 true c.args.steps.now c.loop-signer.steps c.check_part.new.steps (λ (xs : List Signer). map piece (map plain_signer xs)) c.args.signers.now c.loop-signer.signer-index none (itemwise_map piece plain_signer) c.loop-signer-test.true refl (c.loop-signer.invariant entry same) here
