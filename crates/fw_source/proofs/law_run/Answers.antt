-- A run is the trace of its events.
use Rattle.fw_source.specs.Runs.{Passes}
use Rattle.fw_source.proofs.Reached.{run_reached, run_without_lies, run_reached_by}
use Rattle.fw_source.proofs.law_run.Goals as goal

pub returns : goal.returns
returns c = record {
  fair = run_reached;
  honest = run_without_lies;
  each = λ w q p. run_reached_by w (Passes q) (Passes p);
}
