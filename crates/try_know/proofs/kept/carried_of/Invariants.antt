use Rattle.std.proofs.Common.{All, IsTrue}
use Rattle.fw_base.specs.Places.{place_fits}
use Rattle.fw_frame.specs.declared.shown.Shown.{Shown}
use Rattle.try_know.proofs.kept.carried_of.Given as goal

abbrev pub invariant-loop-word : goal.invariant-loop-word
invariant-loop-word l = All (λ (pair : Shown). IsTrue (place_fits l.params pair.place)) l.pairs
