-- What is shown is released, over events and over runs.
use Rattle.fw_source.specs.Runs.{Passes}
use Rattle.fw_source.specs.Shown.{by_tests}
use Rattle.fw_source.proofs.Shown.{all_released}
use Rattle.fw_source.proofs.Reached.{run_released}
use Rattle.fw_source.proofs.law_shown.Goals as goal

pub returns : goal.returns
returns c = record {
  events = λ r shows released known. all_released r (by_tests shows released known);
  runs = λ w shows released known q p. run_released w (by_tests shows released known) (Passes q) (Passes p);
}
