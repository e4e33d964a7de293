use Rattle.fw_lengths.proofs.Admitted.{admitted_short}
use Rattle.fw_lengths.proofs.law_short.Goals as goal

pub returns-clause-admitted : goal.returns-clause-admitted
returns-clause-admitted c = λ d own from bytes f sizes e. admitted_short d own from bytes f sizes e
