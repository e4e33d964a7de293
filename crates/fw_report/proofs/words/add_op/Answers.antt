-- What the check leaves to show of `add_op`.
use Rattle.std.proofs.Common.{arith}
use Rattle.std.proofs.lemmas.Grind.{common_steps}
use Rattle.fw_report.proofs.Spoken.{following-op_words}
use Rattle.fw_report.proofs.words.add_op.Goals as goal

pub returns : goal.returns
returns c = rw (following-op_words c.args.op.now) (grind (arith, common_steps))
