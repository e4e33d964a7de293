-- What the check leaves to show of `client_of`.
use Rattle.std.proofs.Common.{arith, decimal}
use Rattle.std.proofs.lemmas.Str.Pattern.{strip_prefix_char}
use Rattle.fw_op.proofs.words.client_of.Goals as goal

pub returns-in-None-clause-none : goal.returns-in-None-clause-none
returns-in-None-clause-none c = λ n below e.
    let none = rw c.in-None.is at (strip_prefix_char 99 c.args.word.now c.strip_prefix.result c.strip_prefix.ensures.cases (omega arith)) in
    none (decimal n) e
