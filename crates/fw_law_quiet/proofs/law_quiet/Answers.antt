use Rattle.fw_law_quiet.proofs.Quiet.{quiet}
use Rattle.fw_law_quiet.proofs.law_quiet.Goals as goal

pub returns : goal.returns
returns c = record { quiet = quiet }
