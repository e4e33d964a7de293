-- The choice of a new view: for a number, the first proof of the greatest view among its view changes.
use Rattle.std.specs.Prelude.{ℕ, ◌<◌, ◌≤◌, ◌≡◌, ◌≢◌, ◌&&◌, nat_eq, nat_lt, List, [], ◌∷◌, ◌++◌, map, flat_map, take, filter, Option, Some, None, slice_get, if◌then◌else◌, All}
use Rattle.fw_frame.specs.View.{Proof, Change, viewed_change, viewed_proof}
use Rattle.fw_frame.specs.Plain.{plain_change, plain_proof}
use Rattle.fw_frame.specs.declared.frame.Change as lent_change
use Rattle.fw_frame.specs.declared.frame.Proof as lent_proof
use Rattle.fw_view.specs.declared.chosen.Best.{Best}
use Rattle.fw_view.specs.declared.chosen.Chosen.{Chosen}
use Rattle.fw_view.specs.declared.chosen.Chosen.TheVariants as chosen

-- the view changes of a frame
abbrev pub seen : List lent_change.Change → List Change
seen changes = map viewed_change (map plain_change changes)

abbrev pub seen_proof : lent_proof.Proof → Proof
seen_proof q = viewed_proof (plain_proof q)

-- ---- the places of proofs

-- all proofs in order: change by change, proof by proof
abbrev pub all_proofs : List Change → List Proof
all_proofs changes = flat_map (λ c. c.proofs) changes

-- the proofs of the change at a place
abbrev pub proofs_at : Option Change → List Proof
proofs_at None = []
proofs_at (Some c) = c.proofs

abbrev pub proofs_in : List Change → ℕ → List Proof
proofs_in changes k = proofs_at (slice_get changes k)

-- the proof at a place
abbrev pub proof_at : List Change → ℕ → ℕ → Option Proof
proof_at changes k j = slice_get (proofs_in changes k) j

-- the proofs that stand before a place
abbrev pub before : List Change → ℕ → ℕ → List Proof
before changes k j = all_proofs (take k changes) ++ take j (proofs_in changes k)

-- ---- what is chosen

-- a proof of this number stands there; each of this number before it is of a smaller view, and none after it is of a greater one
pub record IsChosen (changes : List Change) (n k j : ℕ) : Type 0 where
  pub proof : Proof
  pub rest : List Proof
  pub here : proof_at changes k j ≡ Some proof
  pub order : all_proofs changes ≡ before changes k j ++ proof ∷ rest
  pub number : proof.number ≡ n
  pub first : All (λ q. q.number ≡ n → q.view < proof.view) (before changes k j)
  pub greatest : All (λ q. q.number ≡ n → q.view ≤ proof.view) rest

-- null where there is no proof of this number
abbrev pub IsChoice : List Change → ℕ → Chosen → Type 0
IsChoice changes n chosen.Null = All (λ q. q.number ≢ n) (all_proofs changes)
IsChoice changes n (chosen.Proof k j) = IsChosen changes n k j

-- ---- the same, computed from all proofs of a number

abbrev pub proofs_of : ℕ → List Proof → List Proof
proofs_of n ps = filter (λ q. nat_eq q.number n) ps

abbrev pub better : Proof → Option Proof → Option Proof
better p None = Some p
better p (Some q) = if nat_lt p.view q.view then Some q else Some p

-- the first of the greatest view
abbrev pub best : List Proof → Option Proof
best [] = None
best (p ∷ ps) = better p (best ps)

abbrev pub best_of : List Change → ℕ → Option Proof
best_of changes n = best (proofs_of n (all_proofs changes))

-- the proof at the places that were chosen
abbrev pub chosen_proof : List Change → Chosen → Option Proof
chosen_proof changes chosen.Null = None
chosen_proof changes (chosen.Proof k j) = proof_at changes k j

-- ---- on the way

-- the best so far, after one more proof
abbrev pub best_with : ℕ → Proof → ℕ → ℕ → Option Best → Option Best
best_with n q k j None = if nat_eq q.number n then Some (record { change = k; proof = j; view = q.view }) else None
best_with n q k j (Some b) =
    if nat_eq q.number n && nat_lt b.view q.view then Some (record { change = k; proof = j; view = q.view }) else Some b

-- of the proofs so far, which are a part of all in order, this is the choice
pub record IsBest (changes : List Change) (n : ℕ) (so_far : List Proof) (b : Best) : Type 0 where
  pub proof : Proof
  pub rest : List Proof
  pub here : proof_at changes b.change b.proof ≡ Some proof
  pub order : so_far ≡ before changes b.change b.proof ++ proof ∷ rest
  pub number : proof.number ≡ n
  pub view : proof.view ≡ b.view
  pub first : All (λ q. q.number ≡ n → q.view < proof.view) (before changes b.change b.proof)
  pub greatest : All (λ q. q.number ≡ n → q.view ≤ proof.view) rest

abbrev pub IsSoFar : List Change → ℕ → List Proof → Option Best → Type 0
IsSoFar changes n so_far None = All (λ q. q.number ≢ n) so_far
IsSoFar changes n so_far (Some b) = IsBest changes n so_far b
