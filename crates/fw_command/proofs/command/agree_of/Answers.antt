-- What is left to show of `agree_of`.
use Rattle.std.proofs.Common.{arith, decimal}
use Rattle.std.proofs.lemmas.Str.Pattern.{strip_prefix_char}
use Rattle.fw_command.proofs.command.agree_of.Goals as goal

pub returns-in_default : goal.returns-in_default
returns-in_default c = λ n below e.
    let none = rw c.in_default.is at (strip_prefix_char 97 c.args.word.now c.strip_prefix.result c.strip_prefix.ensures.cases (omega arith)) in
    none (decimal n) e
