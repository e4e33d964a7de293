use Rattle.fw_quorum.proofs.Counting.{quorums_share_correct}
use Rattle.fw_quorum.proofs.law_quorums.Goals as goal

pub returns : goal.returns
returns c = quorums_share_correct
