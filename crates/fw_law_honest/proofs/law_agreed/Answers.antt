-- All agreed frames of a number are one.
use Rattle.fw_law_honest.proofs.Laws.{agrees_once, run_agrees_once}
use Rattle.fw_law_honest.proofs.law_agreed.Goals as goal

pub returns : goal.returns
returns c = record { events = agrees_once; runs = run_agrees_once }
