-- The ledger is that of the blank.
use Rattle.try_frames.proofs.signing.is_valid.Given as goal

abbrev pub ghosts-is_signed : goal.ghosts-is_signed
ghosts-is_signed a = record { name = a.blank.name; parts = a.blank.parts }
