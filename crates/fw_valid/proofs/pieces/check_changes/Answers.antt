use Rattle.std.proofs.Common.{refl, true, false, List, map}
use Rattle.std.specs.Prelude.{flat_map}
use Rattle.fw_text.specs.Texts.{hash}
use Rattle.fw_frame.specs.declared.frame.Change.{Change}
use Rattle.fw_frame.specs.Plain.{plain_change}
use Rattle.fw_frame.specs.Parts.{change_pieces}
use Rattle.fw_valid.proofs.Fitting.{change_at}
use Rattle.fw_valid.proofs.Lists.{itemwise_flat, checks_next, checks_broken, checks_item}
use Rattle.fw_valid.proofs.pieces.check_changes.Goals as goal

pub check_change-requires-clause-fits : goal.check_change-requires-clause-fits
check_change-requires-clause-fits g c =
    change_at c.args.directory.now.params c.args.changes.now c.loop-change.change-index c.change-item.result c.loop-change-test.true c.change-item.is c.requires.fits

pub returns-then-not-check_change : goal.returns-then-not-check_change
returns-then-not-check_change g c =
    let here = checks_item c.args.directory.now 257 false c.loop-change.steps c.check_change.new.steps (change_pieces hash) plain_change c.args.changes.now c.loop-change.change-index c.change-item.result c.change-item.is c.if-not-check_change.ensures in
    checks_broken c.args.directory.now 257 false c.args.steps.now c.loop-change.steps c.check_change.new.steps (λ (xs : List Change). flat_map (change_pieces hash) (map plain_change xs)) c.args.changes.now c.loop-change.change-index c.change-item.result (itemwise_flat (change_pieces hash) plain_change) c.loop-change-test.true refl c.loop-change.invariant here

pub loop-change-preserved : goal.loop-change-preserved
loop-change-preserved g c =
    let here = checks_item c.args.directory.now 257 true c.loop-change.steps c.check_change.new.steps (change_pieces hash) plain_change c.args.changes.now c.loop-change.change-index c.change-item.result c.change-item.is c.if-not-check_change.ensures in
    checks_next c.args.directory.now 257 true c.args.steps.now c.loop-change.steps c.check_change.new.steps (λ (xs : List Change). flat_map (change_pieces hash) (map plain_change xs)) c.args.changes.now c.loop-change.change-index c.change-item.result (itemwise_flat (change_pieces hash) plain_change) c.loop-change-test.true refl c.loop-change.invariant here
