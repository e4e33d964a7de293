-- What was looked at so far are names.
use Rattle.fw_op.proofs.NameBytes.{BeginsWith}
use Rattle.fw_op.proofs.reply_bytes.are_names.Given as goal

abbrev pub invariant-loop : goal.invariant-loop
invariant-loop l = BeginsWith l.fn.reader l.reader l.counter
