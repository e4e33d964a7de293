-- The passes of an agreement node in a view send what can be sent.
use Rattle.std.proofs.Common.{ℕ, List}
use Rattle.fw_rules.specs.Agree.{Self, Step, numbers, offers_choice, offers_request, prepares, pledges, commits, goes_up, makes_offers, casts_votes, commits_and_sends}
use Rattle.fw_lengths.proofs.Pieces.{IsShortRequest}
use Rattle.fw_lengths.proofs.Options.{all_any}
use Rattle.fw_lengths.proofs.Signed.{IsShortMeans}
use Rattle.fw_sendable.proofs.Fitting.{offers_choice-fit, offers_request-fit, prepares-fit, pledges-fit, commits-fit, goes_up-fit}
use Rattle.fw_sendable.proofs.Stepping.{FitStep, for_each-fit}

pub offers-fit : (me : Self (List ℕ)) → IsShortMeans me.means → (s : Step (List ℕ)) → FitStep me.means.params s → FitStep me.means.params (makes_offers me s)
offers-fit me k s f =
    for_each-fit me k (offers_request me) IsShortRequest (λ x r fit short. offers_request-fit me x r short) s.0.heard.requests f.0.requests _
    (for_each-fit me k (offers_choice me) (λ _. Unit {0}) (λ x n fit _. offers_choice-fit me x n fit) (numbers me) (all_any (numbers me)) s f)

pub votes-fit : (me : Self (List ℕ)) → IsShortMeans me.means → (s : Step (List ℕ)) → FitStep me.means.params s → FitStep me.means.params (casts_votes me s)
votes-fit me k s f =
    for_each-fit me k (pledges me) (λ _. Unit {0}) (λ x n fit _. pledges-fit me x n fit) (numbers me) (all_any (numbers me)) _
    (for_each-fit me k (prepares me) (λ _. Unit {0}) (λ x n fit _. prepares-fit me x n fit) (numbers me) (all_any (numbers me)) s f)

pub commits_and_sends-fit : (me : Self (List ℕ)) → IsShortMeans me.means → (s : Step (List ℕ)) → FitStep me.means.params s → FitStep me.means.params (commits_and_sends me s)
commits_and_sends-fit me k s f =
    for_each-fit me k (goes_up me) (λ _. Unit {0}) (λ x n fit _. goes_up-fit me x n fit) (numbers me) (all_any (numbers me)) _
    (for_each-fit me k (commits me) (λ _. Unit {0}) (λ x n fit _. commits-fit me x n fit) (numbers me) (all_any (numbers me)) s f)
