-- Each frame that the rule sends can be sent.
use Rattle.fw_sendable.proofs.Viewing.{agree_sends}
use Rattle.fw_sendable.proofs.law_agree_sends.Goals as goal

pub returns : goal.returns
returns c = λ p i hand d h sizes same. agree_sends p i hand sizes d h same
