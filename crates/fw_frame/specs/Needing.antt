-- Where reading a frame needs memory: in the lists of three kinds, from the first item on that is read whole.
use Rattle.std.specs.Prelude.{◌≡◌, ℕ, ◌-◌, Bool, ◌&&◌, nat_eq, nat_lt, nat_le, List, ◌∷◌, ◌++◌, IsTrue, ◌⊎◌}
use Rattle.fw_base.specs.declared.params.Params.{Params}
use Rattle.fw_list.specs.Numbers.{u32, within}
use Rattle.fw_base.specs.Sizes.{agreements, quorum}
use Rattle.fw_frame.specs.Ranges.{view_fits, number_fits, entry_fits, signer_fits, proof_fits, change_fits}
use Rattle.fw_frame.specs.Spelling.{entry_bytes, signer_bytes, proof_bytes, change_bytes}

-- the bytes begin with a value that fits, and this holds of the value and of what is left behind it
pub record Begins {A : Type 0} (text : A → List ℕ) (fits : A → Bool) (more : A → List ℕ → Type 0) (bytes : List ℕ) : Type 0 where
  pub value : A
  pub rest : List ℕ
  pub is : bytes ≡ text value ++ rest
  pub fitting : IsTrue (fits value)
  pub behind : more value rest

-- nothing more is said
abbrev pub Anything : {A : Type 0} → A → List ℕ → Type 0
Anything x rest = Unit {0}

-- the bytes begin with an item of a list, or with one in which a list has begun
abbrev pub StartsItem : {A : Type 0} → (A → List ℕ) → (A → Bool) → (List ℕ → Type 0) → List ℕ → Type 0
StartsItem text fits inside bytes = Begins text fits Anything bytes ⊎ inside bytes

-- the first signature of a quorum
abbrev pub StartsSigners : Params → List ℕ → Type 0
StartsSigners p = Begins u32 (λ n. within (quorum p) n (quorum p)) (λ _. Begins signer_bytes (signer_fits p) Anything)

-- a list of proofs whose first one is there, or has a signature
abbrev pub StartsProof : Params → ℕ → List ℕ → Type 0
StartsProof p view =
    Begins u32 (λ v. nat_lt v view) (λ _. Begins u32 (number_fits p) (λ _. Begins entry_bytes (entry_fits p) (λ _. StartsSigners p)))

abbrev pub StartsProofs : Params → ℕ → List ℕ → Type 0
StartsProofs p view = Begins u32 (λ n. nat_le n p.numbers) (λ _. StartsItem proof_bytes (proof_fits p view) (StartsProof p view))

-- a view change whose proofs have begun, to a view of a range
abbrev pub StartsChange : Params → ℕ → ℕ → List ℕ → Type 0
StartsChange p low high = Begins u32 (λ v. within low v high) (λ view. Begins u32 (λ i. nat_lt i (agreements p)) (λ _. StartsProofs p view))

-- a quorum's view changes to one view, of which the first is there, or has proofs that have begun
abbrev pub StartsChanges : Params → ℕ → List ℕ → Type 0
StartsChanges p view =
    Begins u32 (λ n. within (quorum p) n (quorum p)) (λ _. StartsItem change_bytes (λ c. nat_eq c.view view && change_fits p c) (StartsChange p view view))

-- the fields of a new view, and those of an agreed entry
abbrev pub StartsNewView : Params → List ℕ → Type 0
StartsNewView p = Begins u32 (λ v. nat_lt 0 v && view_fits p v) (λ view. StartsChanges p view)

abbrev pub StartsAgreed : Params → List ℕ → Type 0
StartsAgreed p =
    Begins u32 (λ v. nat_lt v p.views) (λ _. Begins u32 (λ n. within 1 n p.numbers) (λ _. Begins entry_bytes (entry_fits p) (λ _. StartsSigners p)))

-- a kind's fields
abbrev pub OfKind : ℕ → (List ℕ → Type 0) → List ℕ → Type 0
OfKind kind fields bytes = (rest : List ℕ) × (bytes ≡ kind ∷ rest) × fields rest

-- a view change, a new view or an agreed entry, with all its fields in range up to the first item of a list, and that item
abbrev pub HasLists : Params → List ℕ → Type 0
HasLists p bytes =
    OfKind 4 (StartsChange p 1 (p.views - 1)) bytes ⊎ (OfKind 5 (StartsNewView p) bytes ⊎ OfKind 6 (StartsAgreed p) bytes)
