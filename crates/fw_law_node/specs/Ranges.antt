-- In what ranges all is that a node does itself.
use Rattle.std.specs.Prelude.{ℕ, ◌≡◌, ◌<◌, List, map, IsTrue}
use Rattle.fw_list.specs.Numbers.{ascending}
use Rattle.fw_base.specs.declared.params.Params.{Params}
use Rattle.fw_trace.specs.Lists.{In}
use Rattle.fw_frame.specs.View.{Proof, Change}
use Rattle.fw_rules.specs.Agree.{Own, Cast, Pledge}
use Rattle.fw_law_node.specs.Facts.{IsNumber, AreQuorum, signed_by}

-- a view of the deployment, and a number of the list
abbrev pub IsPlace : Params → ℕ → ℕ → Type 0
IsPlace p view n = (view < p.views) × IsNumber p n

-- at a place, with the signatures of a quorum
pub record IsProof (p : Params) (q : Proof) : Type 0 where
  pub place : IsPlace p q.view q.number
  pub signers : AreQuorum p (signed_by q.signers)

abbrev pub numbers_of : List Proof → List ℕ
numbers_of proofs = map (λ q. q.number) proofs

-- a view change that a node makes: to a view of the deployment that isn't the first, with some of these proofs, all of earlier views,
-- one for each number at most, ascending
pub record IsChangeBy (p : Params) (node : ℕ) (proofs : List Proof) (m : Change) : Type 0 where
  pub later : 0 < m.view
  pub below : m.view < p.views
  pub signer : m.agree ≡ node
  pub among : (q : Proof) → In q m.proofs → In q proofs
  pub earlier : (q : Proof) → In q m.proofs → q.view < m.view
  pub distinct : IsTrue (ascending (numbers_of m.proofs))

pub record InRange (p : Params) (node : ℕ) (own : Own) : Type 0 where
  pub view : own.view < p.views
  pub casts : (c : Cast) → In c own.casts → IsPlace p c.view c.number
  pub pledges : (c : Pledge) → In c own.pledges → IsPlace p c.view c.number
  pub proofs : (q : Proof) → In q own.proofs → IsProof p q
  pub moves : (m : Change) → In m own.moves → IsChangeBy p node own.proofs m
