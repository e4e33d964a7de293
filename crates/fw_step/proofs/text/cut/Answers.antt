-- What is left to show of `cut`.
use Rattle.fw_op.proofs.Sentences.{cut}
use Rattle.fw_step.proofs.text.cut.Goals as goal

pub returns : goal.returns
returns c = cut c.args.text.now c.split_once.result c.split_once.ensures.cases
