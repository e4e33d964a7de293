-- The ledger is that of the blank.
use Rattle.try_world.proofs.case.Case.take.Given as goal

abbrev pub ghosts-frames_of : goal.ghosts-frames_of
ghosts-frames_of a = record { name = a.blank.name; parts = a.blank.parts }
