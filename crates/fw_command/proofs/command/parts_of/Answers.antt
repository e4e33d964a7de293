-- What is left to show of `parts_of`.
use Rattle.std.proofs.Common.{arith, decimal}
use Rattle.std.proofs.lemmas.Str.Pattern.{split_after}
use Rattle.fw_command.proofs.Naming.{no_point, pointless_decimal}
use Rattle.fw_command.proofs.command.parts_of.Goals as goal

pub returns-clause-each : goal.returns-clause-each
returns-clause-each c = λ r rest small e. split_after 46 c.args.place.now (decimal r) rest c.split_once.result c.split_once.ensures.cases (omega arith) e (no_point (decimal r) (pointless_decimal r small))
