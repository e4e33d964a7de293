-- The entries of the proofs before the place are seen.
use Rattle.std.proofs.Common.{◌≡◌, ◌++◌, map, take}
use Rattle.fw_frame.specs.Plain.{plain_proof}
use Rattle.fw_frame.specs.View.{viewed_proof}
use Rattle.fw_owned.specs.Pieces.{entry_of}
use Rattle.fw_hears.proofs.hears.sees_proofs.Given as goal

abbrev pub invariant-loop-proof : goal.invariant-loop-proof
invariant-loop-proof l = map entry_of l.seen ≡ map entry_of l.fn.seen ++ map (λ q. q.entry) (map viewed_proof (map plain_proof (take l.proof-index l.proofs)))
