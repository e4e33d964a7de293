-- What is left to show of `law_genuine`.
use Rattle.fw_law_agree.specs.Genuine.{Genuine}
use Rattle.fw_law_agree.proofs.Genuine.{genuine}
use Rattle.fw_law_agree.proofs.Running.{in_runs}
use Rattle.fw_law_agree.proofs.law_genuine.Goals as goal

pub returns : goal.returns
returns c = record { always = genuine; runs = in_runs Genuine genuine }
