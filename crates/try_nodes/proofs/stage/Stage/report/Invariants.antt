-- The ledger is that of the blank.
use Rattle.try_nodes.proofs.stage.Stage.report.Given as goal

abbrev pub ghosts-reported : goal.ghosts-reported
ghosts-reported a = record { name = a.blank.name; parts = a.blank.parts }
