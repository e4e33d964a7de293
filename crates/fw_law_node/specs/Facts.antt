-- What a node's votes, view changes and new views have to do with one another, after every history.
use Rattle.std.specs.Prelude.{ℕ, ◌≡◌, ◌<◌, ◌≤◌, ◌⊎◌, true, List, [], ◌∷◌, length, map, IsTrue}
use Rattle.fw_list.specs.Numbers.{ascending}
use Rattle.fw_base.specs.declared.params.Params.{Params}
use Rattle.fw_base.specs.Sizes.{agreements, quorum}
use Rattle.fw_text.specs.Texts.{Hash}
use Rattle.fw_trace.specs.Lists.{In}
use Rattle.fw_frame.specs.View.{Signer, Proof, Change}
use Rattle.fw_rules.specs.Signing.{entry_digest}
use Rattle.fw_rules.specs.Agree.{Own, Cast, Pledge, Adopted, top, choice}

-- ---- words

-- a number of the list, and a view of the deployment with one
abbrev pub IsNumber : Params → ℕ → Type 0
IsNumber p n = (1 ≤ n) × (n ≤ p.numbers)

-- nodes that are a quorum: as many as one has, each of the deployment, and each above the one before it
pub record AreQuorum (p : Params) (nodes : List ℕ) : Type 0 where
  pub enough : length nodes ≡ quorum p
  pub distinct : IsTrue (ascending nodes)
  pub within : (i : ℕ) → In i nodes → i < agreements p

abbrev pub signed_by : List Signer → List ℕ
signed_by signers = map (λ s. s.agree) signers

-- there is a prepare vote for this view, number and digest
pub record HasCast (hash : Hash) (casts : List Cast) (view n : ℕ) (digest : List ℕ) : Type 0 where
  pub cast : Cast
  pub among : In cast casts
  pub its_view : cast.view ≡ view
  pub its_number : cast.number ≡ n
  pub its_digest : entry_digest hash cast.entry ≡ digest

-- there is a proof of them, with the signatures of a quorum
pub record HasProof (p : Params) (hash : Hash) (proofs : List Proof) (view n : ℕ) (digest : List ℕ) : Type 0 where
  pub proof : Proof
  pub among : In proof proofs
  pub its_view : proof.view ≡ view
  pub its_number : proof.number ≡ n
  pub its_digest : entry_digest hash proof.entry ≡ digest
  pub its_signers : AreQuorum p (signed_by proof.signers)

-- a prepare vote follows a new view of its view: its number is above all that the new view chooses, or it is for what is chosen
pub record FollowsNewView (hash : Hash) (adopted : List Adopted) (c : Cast) : Type 0 where
  pub new_view : Adopted
  pub among : In new_view adopted
  pub its_view : new_view.view ≡ c.view
  pub free_or_chosen : (top new_view.changes < c.number) ⊎ (entry_digest hash c.entry ≡ entry_digest hash (choice new_view.changes c.number))

-- a view change has a proof of a number, of this view or a later one
pub record HasProofSince (m : Change) (view n : ℕ) : Type 0 where
  pub proof : Proof
  pub among : In proof m.proofs
  pub its_number : proof.number ≡ n
  pub its_view : view ≤ proof.view

-- it is in view 0, or in the view of the new view that it adopted last
abbrev pub IsBegun : Own → List Adopted → Type 0
IsBegun own [] = own.view ≡ 0
IsBegun own (a ∷ adopted) = a.view ≡ own.view

-- ---- what is kept to

-- nothing that it did is of a view above its own
pub record UpToItsView (own : Own) : Type 0 where
  pub casts : (c : Cast) → In c own.casts → c.view ≤ own.view
  pub pledges : (p : Pledge) → In p own.pledges → p.view ≤ own.view
  pub proofs : (q : Proof) → In q own.proofs → q.view ≤ own.view
  pub moves : (m : Change) → In m own.moves → m.view ≤ own.view
  pub adopted : (a : Adopted) → In a own.adopted → a.view ≤ own.view

-- each commit vote has its prepare vote, and a proof
pub record AreProved (p : Params) (hash : Hash) (own : Own) : Type 0 where
  pub cast : (c : Pledge) → In c own.pledges → HasCast hash own.casts c.view c.number c.digest
  pub proof : (c : Pledge) → In c own.pledges → HasProof p hash own.proofs c.view c.number c.digest

-- each view change has a proof for each commit vote of an earlier view
abbrev pub Covers : Own → Type 0
Covers own = (m : Change) → In m own.moves → (c : Pledge) → In c own.pledges → c.view < m.view → HasProofSince m c.view c.number

-- each prepare vote of a view above 0 follows a new view that it adopted
abbrev pub Follows : Hash → Own → Type 0
Follows hash own = (c : Cast) → In c own.casts → 0 < c.view → FollowsNewView hash own.adopted c

pub record KeepsTo (p : Params) (hash : Hash) (own : Own) : Type 0 where
  pub up_to : UpToItsView own
  pub begun : own.active ≡ true → IsBegun own own.adopted
  pub proved : AreProved p hash own
  pub covers : Covers own
  pub follows : Follows hash own
