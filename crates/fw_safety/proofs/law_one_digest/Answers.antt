use Rattle.fw_safety.proofs.Choice.{one_digest}
use Rattle.fw_safety.proofs.law_one_digest.Goals as goal

pub returns : goal.returns
returns c = one_digest
