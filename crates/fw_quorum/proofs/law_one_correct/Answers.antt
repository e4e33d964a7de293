use Rattle.fw_base.specs.Sizes.{executors}
use Rattle.fw_quorum.proofs.Counting.{one_correct}
use Rattle.fw_quorum.proofs.law_one_correct.Goals as goal

pub returns : goal.returns
returns c = λ p faulty members few group. one_correct (executors p) p.g faulty members few group
