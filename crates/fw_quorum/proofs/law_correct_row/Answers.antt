use Rattle.fw_quorum.proofs.Counting.{row_correct}
use Rattle.fw_quorum.proofs.law_correct_row.Goals as goal

pub returns : goal.returns
returns c = row_correct
