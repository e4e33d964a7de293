-- A run is the trace of its events.
use Rattle.fw_law_honest.proofs.Laws.{run_events}
use Rattle.fw_law_honest.proofs.law_run.Goals as goal

pub returns : goal.returns
returns c = run_events
