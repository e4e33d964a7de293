-- What is left to show of `filter_of`.
use Rattle.std.proofs.Common.{arith, decimal, ◌++◌, ◌∷◌}
use Rattle.std.proofs.lemmas.Str.Pattern.{strip_prefix_char}
use Rattle.fw_command.proofs.command.filter_of.Goals as goal

pub returns-in-None : goal.returns-in-None
returns-in-None c = λ row column small little e.
    let none = rw c.in-None.is at (strip_prefix_char 120 c.args.word.now c.strip_prefix.result c.strip_prefix.ensures.cases (omega arith)) in
    none (decimal row ++ 46 ∷ decimal column) e
