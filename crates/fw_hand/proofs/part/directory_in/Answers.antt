-- The digests that stand there.
use Rattle.std.proofs.Common.{◌∙◌}
use Rattle.fw_hand.proofs.Items.{directory_on}
use Rattle.fw_hand.proofs.part.directory_in.Goals as goal

pub returns-clause-finds : goal.returns-clause-finds
returns-clause-finds c =
    rw (c.new.ensures, c.in_ok-digests.ensures)
    (directory_on c.args.params c.args.reader.now c.in-Some.part.now c.fixed.new.self c.requires c.in-Some.ensures.0 (c.in-Some.ensures.1 ∙ c.digests_len.ensures))
