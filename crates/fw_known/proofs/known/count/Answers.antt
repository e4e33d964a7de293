-- A signer's first signature, after the vote.
use Rattle.std.proofs.Common.{◌≡◌, List, ℕ, ap, ◌∙◌}
use Rattle.fw_pbft.specs.Tallies.{Ballot, signature_among, ballots_with}
use Rattle.fw_known.proofs.Counting.{with_vote, ballot}
use Rattle.fw_known.proofs.known.count.Goals as goal

pub returns-clause-counted : goal.returns-clause-counted
returns-clause-counted c = λ phase view number signer digest.
    let v = c.args.vote.now in
    ap (λ l. signature_among l digest) (c.in_ok-add.ensures.kept phase view number signer)
    ∙ ap (λ sig. signature_among (ballots_with c.args.tally.now (record (ballot v) { sig = sig }) phase view number signer) digest) c.items.ensures
    ∙ with_vote c.args.tally.now v phase view number digest signer
