-- What the check leaves to show of `add_reply`.
use Rattle.std.proofs.Common.{arith}
use Rattle.std.proofs.lemmas.Grind.{common_steps}
use Rattle.fw_report.proofs.Spoken.{following-reply_words}
use Rattle.fw_report.proofs.words.add_reply.Goals as goal

pub returns : goal.returns
returns c = rw (following-reply_words c.args.reply.now) (grind (arith, common_steps))
