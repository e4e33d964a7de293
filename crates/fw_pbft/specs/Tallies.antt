-- The votes of agreement nodes, and who a quorum of them is.
use Rattle.std.specs.Prelude.{ℕ, Bool, ◌&&◌, not, nat_eq, nat_le, List, [], ◌∷◌, ◌++◌, length, take, filter, filter_map, Option, Some, None, is_some, if◌then◌else◌, bytes_eq}
use Rattle.std.specs.List.{find}
use Rattle.std.specs.Option.{option_map}
use Rattle.fw_list.specs.Lists.{numbers_from}
use Rattle.fw_base.specs.declared.params.Params.{Params}
use Rattle.fw_base.specs.Sizes.{agreements, quorum}
use Rattle.fw_frame.specs.declared.frame.Signer as lent
use Rattle.fw_frame.specs.Plain.{plain_signer}
use Rattle.fw_frame.specs.View.{Signer, viewed_signer}
use Rattle.fw_pbft.specs.declared.votes.KeptVote.{KeptVote}

-- a signer's vote for a digest, with its signature
pub record Ballot : Type 0 where
  pub phase : ℕ
  pub view : ℕ
  pub number : ℕ
  pub signer : ℕ
  pub digest : List ℕ
  pub sig : List ℕ

-- the sizes of the deployment, and the votes
pub record Tally : Type 0 where
  pub params : Params
  pub ballots : List Ballot

abbrev pub is_at : ℕ → ℕ → ℕ → ℕ → Ballot → Bool
is_at phase view number signer b = nat_eq b.phase phase && nat_eq b.view view && nat_eq b.number number && nat_eq b.signer signer

-- what a signer voted for at a number, in a view and a phase: the digests in order, each with its first signature
abbrev pub ballots_at : Tally → ℕ → ℕ → ℕ → ℕ → List Ballot
ballots_at t phase view number signer = filter (is_at phase view number signer) t.ballots

-- a signer's signature on its vote for a digest, if it has voted for it
abbrev pub signature_among : List Ballot → List ℕ → Option (List ℕ)
signature_among ballots digest = option_map (λ b. b.sig) (find (λ b. bytes_eq b.digest digest) ballots)

abbrev pub signature_of : Tally → ℕ → ℕ → ℕ → List ℕ → ℕ → Option (List ℕ)
signature_of t phase view number digest signer = signature_among (ballots_at t phase view number signer) digest

abbrev pub has_voted : Tally → ℕ → ℕ → ℕ → List ℕ → ℕ → Bool
has_voted t phase view number digest signer = is_some (signature_of t phase view number digest signer)

-- what a signer voted for, after a vote: one more, where it is this signer's, at this number, and for a digest that it hadn't voted for
abbrev pub ballots_with : Tally → Ballot → ℕ → ℕ → ℕ → ℕ → List Ballot
ballots_with t b phase view number signer =
    if is_at phase view number signer b && not (has_voted t b.phase b.view b.number b.digest b.signer) then ballots_at t phase view number signer ++ b ∷ []
    else ballots_at t phase view number signer

-- a signer with its signature on its vote for a digest, if it has voted for it
abbrev pub signer_of : Tally → ℕ → ℕ → ℕ → List ℕ → ℕ → Option Signer
signer_of t phase view number digest i = option_map (λ sig. record { agree = i; sig = sig }) (signature_of t phase view number digest i)

-- all who voted for a digest, from the lowest, each with its signature
abbrev pub signers_of : Tally → ℕ → ℕ → ℕ → List ℕ → List Signer
signers_of t phase view number digest = filter_map (signer_of t phase view number digest) (numbers_from 0 (agreements t.params))

-- the lowest signers that are a quorum, where so many voted for a digest
abbrev pub quorum_of : Tally → ℕ → ℕ → ℕ → List ℕ → Option (List Signer)
quorum_of t phase view number digest =
    let signers = signers_of t phase view number digest in
    if nat_le (quorum t.params) (length signers) then Some (take (quorum t.params) signers) else None

-- a vote as it is kept
abbrev pub ballot_of : KeptVote → Ballot
ballot_of v = record { phase = v.phase; view = v.view; number = v.number; signer = v.signer; digest = v.digest; sig = v.sig }

-- a signer of a frame
abbrev pub seen_signer : lent.Signer → Signer
seen_signer s = viewed_signer (plain_signer s)
