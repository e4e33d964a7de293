-- What agreement nodes have voted for and how they changed views, whatever their frames look like, and the rules that they keep to.
use Rattle.std.specs.Prelude.{ℕ, ◌<◌, ◌≤◌, ◌≡◌, ◌⊎◌, Bool, false, List, map, flat_map, Contains, Option, Some}
use Rattle.fw_base.specs.declared.params.Params.{Params}
use Rattle.fw_quorum.specs.Quorum.{FewNodesFaulty, IsQuorum}

-- a proof as a view change lists it: the view and the number of its prepare votes, and the digest that they are for
pub record ListedProof : Type 0 where
  pub view : ℕ
  pub number : ℕ
  pub digest : List ℕ

-- a view change as a new view lists it: whose it is, and its proofs
pub record ListedChange : Type 0 where
  pub node : ℕ
  pub proofs : List ListedProof

-- what nodes have done: the digests of prepare and commit votes by node, view and number, the proofs of view changes by node and view
pub record Deeds : Type 0 where
  pub params : Params
  pub faulty : ℕ → Bool
  pub prepare_vote : ℕ → ℕ → ℕ → Option (List ℕ)
  pub commit_vote : ℕ → ℕ → ℕ → Option (List ℕ)
  pub view_change : ℕ → ℕ → Option (List ListedProof)

-- the node has voted to prepare the digest
abbrev pub VotesToPrepare : Deeds → ℕ → ℕ → List ℕ → ℕ → Type 0
VotesToPrepare w view number digest node = w.prepare_vote node view number ≡ Some digest

-- the node has voted to commit the digest
abbrev pub VotesToCommit : Deeds → ℕ → ℕ → List ℕ → ℕ → Type 0
VotesToCommit w view number digest node = w.commit_vote node view number ≡ Some digest

-- a quorum, each of which has done it or is faulty
pub record HasQuorum (w : Deeds) (Did : ℕ → Type 0) : Type 0 where
  pub members : List ℕ
  pub many : IsQuorum w.params members
  pub each : (node : ℕ) → Contains members node → w.faulty node ≡ false → Did node

-- a quorum has voted to prepare the digest
abbrev pub IsPrepared : Deeds → ℕ → ℕ → List ℕ → Type 0
IsPrepared w view number digest = HasQuorum w (VotesToPrepare w view number digest)

-- a quorum has voted to commit the digest
abbrev pub IsCommitted : Deeds → ℕ → ℕ → List ℕ → Type 0
IsCommitted w view number digest = HasQuorum w (VotesToCommit w view number digest)

-- the proof is of a view before this one, and a quorum has voted to prepare what it says
pub record IsProved (w : Deeds) (view : ℕ) (proof : ListedProof) : Type 0 where
  pub before : proof.view < view
  pub prepared : IsPrepared w proof.view proof.number proof.digest

-- whose change it is
abbrev pub node_of : ListedChange → ℕ
node_of change = change.node

-- the proofs that it lists
abbrev pub proofs_of : ListedChange → List ListedProof
proofs_of change = change.proofs

-- the proofs of all the changes
abbrev pub all_proofs : List ListedChange → List ListedProof
all_proofs changes = flat_map proofs_of changes

-- the changes of a new view of this view: of a quorum, each of which made its change so or is faulty, and with proofs that hold
pub record IsNewView (w : Deeds) (view : ℕ) (changes : List ListedChange) : Type 0 where
  pub many : IsQuorum w.params (map node_of changes)
  pub made : (change : ListedChange) → Contains changes change → w.faulty change.node ≡ false → w.view_change change.node view ≡ Some change.proofs
  pub proved : (proof : ListedProof) → Contains (all_proofs changes) proof → IsProved w view proof

-- one of these proofs is of the number
abbrev pub HasNumber : ℕ → List ListedProof → Type 0
HasNumber number proofs = (proof : ListedProof) × Contains proofs proof × (proof.number ≡ number)

-- of the proofs of a number, one of the greatest view
pub record IsBest (number : ℕ) (proofs : List ListedProof) (best : ListedProof) : Type 0 where
  pub among : Contains proofs best
  pub its_number : best.number ≡ number
  pub greatest : (proof : ListedProof) → Contains proofs proof → proof.number ≡ number → proof.view ≤ best.view

-- the digest may be the choice at the number: it is that of a proof of the greatest view
abbrev pub IsChoice : ℕ → List ℕ → List ListedProof → Type 0
IsChoice number digest proofs = (best : ListedProof) × IsBest number proofs best × (best.digest ≡ digest)

-- the digest follows the new view: it is the choice at the number, or the number has no proof
abbrev pub Follows : ℕ → List ℕ → List ListedProof → Type 0
Follows number digest proofs = (HasNumber number proofs → ⊥) ⊎ IsChoice number digest proofs

-- the number has a proof, the digest is the choice, and no other is
pub record IsKept (number : ℕ) (digest : List ℕ) (proofs : List ListedProof) : Type 0 where
  pub has : HasNumber number proofs
  pub choice : IsChoice number digest proofs
  pub only : (other : List ℕ) → IsChoice number other proofs → other ≡ digest

-- the view change lists a proof of the number, of this view or a later one
abbrev pub Covers : ℕ → ℕ → List ListedProof → Type 0
Covers view number proofs = (proof : ListedProof) × Contains proofs proof × (proof.number ≡ number) × (view ≤ proof.view)

-- a prepare vote of this view follows a new view of it
abbrev pub FollowsNewView : Deeds → ℕ → ℕ → List ℕ → Type 0
FollowsNewView w view number digest = (changes : List ListedChange) × IsNewView w view changes × Follows number digest (all_proofs changes)

-- at most f nodes are faulty, and each other node keeps to three rules
pub record KeepsRules (w : Deeds) : Type 0 where
  pub few : FewNodesFaulty w.params w.faulty
  -- it votes to commit what it has voted to prepare, where a quorum has
  pub commits : (node view number : ℕ) (digest : List ℕ) → w.faulty node ≡ false → VotesToCommit w view number digest node → VotesToPrepare w view number digest node × IsPrepared w view number digest
  -- its view change covers each commit vote of an earlier view
  pub changes : (node view before number : ℕ) (digest : List ℕ) (proofs : List ListedProof) → w.faulty node ≡ false → w.view_change node view ≡ Some proofs → VotesToCommit w before number digest node → before < view → Covers before number proofs
  -- its prepare vote in a view after 0 follows a new view
  pub prepares : (node view number : ℕ) (digest : List ℕ) → w.faulty node ≡ false → 0 < view → VotesToPrepare w view number digest node → FollowsNewView w view number digest
