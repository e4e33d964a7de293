use Rattle.fw_law_directory.proofs.OneDirectory.{one_directory}
use Rattle.fw_law_directory.proofs.law_one_directory.Goals as goal

pub returns : goal.returns
returns c = one_directory
