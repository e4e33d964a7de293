-- The count has the signers that the rule finds among the votes.
use Rattle.std.proofs.Common.{◌≡◌, List, ℕ, map, ap, sym, ◌∙◌}
use Rattle.std.specs.Option.{option_map}
use Rattle.std.proofs.lemmas.Result.{IfOk-weaker}
use Rattle.fw_pbft.specs.Tallies.{quorum_of, seen_signer}
use Rattle.fw_rules.specs.Agree as agree
use Rattle.fw_known.specs.Counted.{KnownVotes}
use Rattle.fw_owned.specs.Pieces.{vote_of}
use Rattle.fw_known.proofs.Counting.{same_quorum}
use Rattle.fw_known.proofs.known.Known.quorum.Goals as goal

pub returns-clause-found : goal.returns-clause-found
returns-clause-found c =
    let a = c.args in
    let k = c.self.inside in
    IfOk-weaker c.quorum.result (λ found. option_map (λ signers. map seen_signer signers) found ≡ quorum_of k.tally a.phase a.view a.number a.digest.now)
    (λ found. (me : agree.Self (List ℕ)) (x : agree.Node) → me.means.params ≡ a.self.now.params → x.votes ≡ map vote_of a.self.now.votes → option_map (λ signers. map seen_signer signers) found ≡ agree.vote_quorum me x a.phase a.view a.number a.digest.now)
    (λ found is me x sizes known. is ∙ same_quorum k.tally k.votes.items c.self.invariant.1 me x (sizes ∙ ap (λ (v : KnownVotes). v.params) (sym c.self.view_is)) (known ∙ ap (λ (v : KnownVotes). map vote_of v.votes) (sym c.self.view_is)) a.phase a.view a.number a.digest.now)
    c.quorum.ensures.found
