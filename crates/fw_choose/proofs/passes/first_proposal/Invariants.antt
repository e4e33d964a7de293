-- What the proposals that are left give is what all give.
use Rattle.std.proofs.Common.{◌≡◌, ℕ, map, drop}
use Rattle.fw_directory.specs.Directories.{PlainDirectory}
use Rattle.fw_hand.specs.Hands.{PlainHand}
use Rattle.fw_rules.specs.Agree as agree
use Rattle.fw_rules.specs.Choices.{first_some}
use Rattle.fw_kept.specs.Kept.{self_of, node_of}
use Rattle.fw_owned.specs.Pieces.{propose_of}
use Rattle.fw_choose.proofs.passes.first_proposal.Given as goal

abbrev pub invariant-loop-propose : goal.invariant-loop-propose
invariant-loop-propose l =
    (d : PlainDirectory) (hand : PlainHand) (own : ℕ) →
    first_some (agree.prepares_one (self_of d hand own) (node_of l.keeps) l.number) (map propose_of (drop l.propose-index l.propose-items))
    ≡ first_some (agree.prepares_one (self_of d hand own) (node_of l.keeps) l.number) (map propose_of l.keeps.proposals)
