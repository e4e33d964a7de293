-- A frame is heard.
use Rattle.std.proofs.lemmas.Result.{on_ok_weaker}
use Rattle.fw_filter.proofs.filter.next.Goals as goal

pub returns-in-Frame-clause-step : goal.returns-in-Frame-clause-step
returns-in-Frame-clause-step g c = on_ok_weaker c.hear.result (λ step hand ready. rw c.in-Frame.is (step hand ready)) c.hear.ensures.step
