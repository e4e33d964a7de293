-- What the check leaves to show of `add_keys`.
use Rattle.std.proofs.Common.{arith, codes}
use Rattle.std.proofs.lemmas.Grind.{common_steps}
use Rattle.fw_op.proofs.ReplySentences.{sentence-names}
use Rattle.fw_op.proofs.writing.add_keys.Goals as goal

pub returns : goal.returns
returns c = rw (sentence-names (codes "keys") c.args.names.now) (grind (arith, common_steps))
