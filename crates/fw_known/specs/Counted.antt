-- The votes that a node knows, and how they are counted.
use Rattle.std.specs.Prelude.{ℕ, ◌≡◌, ◌&&◌, List, Option, Some, None, if◌then◌else◌, bytes_eq}
use Rattle.std.specs.List.{find}
use Rattle.std.specs.Option.{option_map}
use Rattle.fw_base.specs.declared.params.Params.{Params}
use Rattle.fw_pbft.specs.Tallies.{Tally, signature_of}
use Rattle.fw_rules.specs.Agree.{is_vote}
use Rattle.fw_owned.specs.declared.owned.OwnedVote.{OwnedVote}
use Rattle.fw_owned.specs.Pieces.{vote_of}

-- the sizes of the deployment, and the votes in order
pub record KnownVotes : Type 0 where
  pub params : Params
  pub votes : List OwnedVote

-- of each signer of a vote the count has the signature that stands first among the votes
abbrev pub AreCounted : Tally → List OwnedVote → Type 0
AreCounted tally votes = (phase view number signer : ℕ) (digest : List ℕ)
    → signature_of tally phase view number digest signer ≡ option_map (λ v. v.sig) (find (λ v. is_vote phase view number digest signer (vote_of v)) votes)

abbrev pub or_else : {T : Type 0} → Option T → Option T → Option T
or_else (Some x) other = Some x
or_else None other = other

-- the signature of a signer, after a vote more
abbrev pub signature_with : Tally → OwnedVote → ℕ → ℕ → ℕ → List ℕ → ℕ → Option (List ℕ)
signature_with tally vote phase view number digest signer =
    or_else (signature_of tally phase view number digest signer) (if is_vote phase view number digest signer (vote_of vote) then Some vote.sig else None)
