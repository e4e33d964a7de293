-- What the check leaves to show of `some_names`.
use Rattle.std.proofs.Common.{arith}
use Rattle.fw_op.proofs.NameBytes.{no_names}
use Rattle.fw_op.proofs.reply_bytes.some_names.Goals as goal

pub returns-in-None-clause-none : goal.returns-in-None-clause-none
returns-in-None-clause-none c = λ names rest size fits is.
    no_names c.args.reader.now c.loop.reader rest c.loop.names names c.loop.invariant.read (omega arith) (rw c.in-None.is at c.name_in.ensures.none) fits is
