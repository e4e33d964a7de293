-- What the votes that are left give is what all give.
use Rattle.std.proofs.Common.{◌≡◌, ℕ, map, drop}
use Rattle.fw_hand.specs.Hands.{PlainHand}
use Rattle.fw_rules.specs.Agree as agree
use Rattle.fw_rules.specs.Choices.{first_some}
use Rattle.fw_kept.specs.Kept.{self_of, node_of}
use Rattle.fw_owned.specs.Pieces.{vote_of}
use Rattle.fw_choose.proofs.passes.commits_in.Given as goal

abbrev pub invariant-loop-vote : goal.invariant-loop-vote
invariant-loop-vote l =
    (hand : PlainHand) (own : ℕ) →
    first_some (agree.commits_by (self_of l.directory hand own) (node_of l.keeps) l.view l.number) (map vote_of (drop l.vote-index l.vote-items))
    ≡ agree.commits_in (self_of l.directory hand own) (node_of l.keeps) l.number l.view
