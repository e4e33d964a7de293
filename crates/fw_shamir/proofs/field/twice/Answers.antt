use Rattle.std.proofs.Common.{arith}
use Rattle.fw_shamir.proofs.Steps.{twice-is}
use Rattle.fw_shamir.proofs.field.twice.Goals as goal

pub returns : goal.returns
returns c = twice-is c.args.a (omega arith)
