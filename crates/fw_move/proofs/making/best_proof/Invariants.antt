-- The best of the proofs so far, as they stand with the newest first.
use Rattle.std.proofs.Common.{◌≡◌, map, take, reverse}
use Rattle.std.specs.Option.{option_copied, option_map}
use Rattle.fw_rules.specs.Agree.{best, proofs_of}
use Rattle.fw_owned.specs.Pieces.{proof_of}
use Rattle.fw_move.proofs.making.best_proof.Given as goal

abbrev pub invariant-loop-proof : goal.invariant-loop-proof
invariant-loop-proof l =
    option_map proof_of (option_copied l.best) ≡ best (proofs_of l.number (map proof_of (reverse (take l.proof-index (reverse l.proofs)))))
