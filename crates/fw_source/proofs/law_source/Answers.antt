-- Where messages come from, over events and over runs.
use Rattle.fw_source.proofs.Source.{traced, traced_without_lies}
use Rattle.fw_source.proofs.Reached.{run_traced, run_traced_correct}
use Rattle.fw_source.proofs.law_source.Goals as goal

pub returns : goal.returns
returns c = record {
  events = λ r who. traced who r;
  honest = traced_without_lies;
  steps = run_traced;
  runs = run_traced_correct;
}
