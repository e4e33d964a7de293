-- By the parts of its frame.
use Rattle.fw_lies.proofs.Signed.{of_lie}
use Rattle.fw_lies.proofs.lie.law_lies_are_signed.Goals as goal

pub returns : goal.returns
returns c = λ o from lie. of_lie o from lie
