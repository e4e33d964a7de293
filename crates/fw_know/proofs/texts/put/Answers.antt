-- The text is under its digest, and the others as they were.
use Rattle.std.proofs.Common.{◌∙◌}
use Rattle.fw_know.proofs.Books.{put_one}
use Rattle.fw_know.proofs.texts.put.Goals as goal

pub returns-clause-ok : goal.returns-clause-ok
returns-clause-ok c = λ d. c.in_ok-insert.ensures.updates.0 d ∙ put_one c.args.digest d _ c.args.text.now _ c.in_ok-copy.ensures
