-- Each accepted reply is the reference's answer.
use Rattle.fw_law_honest.proofs.Laws.{accepts, run_accepts}
use Rattle.fw_law_honest.proofs.law_accepted.Goals as goal

pub returns : goal.returns
returns c = record { events = accepts; runs = run_accepts }
