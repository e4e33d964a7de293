-- The ledger is that of the blank.
use Rattle.try_limits.proofs.playing.answer.Given as goal

abbrev pub ghosts-played : goal.ghosts-played
ghosts-played a = record { name = a.blank.name; parts = a.blank.parts }
