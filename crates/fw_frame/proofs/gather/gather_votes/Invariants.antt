use Rattle.std.specs.Prelude.{map, take}
use Rattle.fw_frame.specs.Plain.{plain_signer}
use Rattle.fw_frame.specs.Parts.{signer_pieces}
use Rattle.fw_frame.specs.Gathered.{Gathers}
use Rattle.fw_frame.proofs.gather.gather_votes.Given as goal

-- the votes so far were gathered
abbrev pub invariant-loop-signer : goal.invariant-loop-signer
invariant-loop-signer l =
    Gathers l.fn.out l.out (signer_pieces l.phase l.view l.number l.entry (map plain_signer (take l.signer-index l.signers)))
