use Rattle.std.proofs.Common.{All, IsTrue}
use Rattle.fw_base.specs.Seats.{fits}
use Rattle.try_know.proofs.kept.seats_of.Given as goal

abbrev pub invariant-loop-word : goal.invariant-loop-word
invariant-loop-word l = All (λ seat. IsTrue (fits l.params seat)) l.seats.items
