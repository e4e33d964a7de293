-- The ledger is that of the blank.
use Rattle.try_plain.proofs.case.Case.take.Given as goal

abbrev pub ghosts-told_of : goal.ghosts-told_of
ghosts-told_of a = record { name = a.blank.name; parts = a.blank.parts }
