-- Checks of a list's items in order, up to the first that is not valid.
use Rattle.std.proofs.Common.{ℕ, zero, suc, ◌+◌, ◌<◌, ◌≤◌, ◌≡◌, ◌≢◌, ◌∙◌, arith, inl, inr, refl, sym, ap, subst, Bool, true, false, List, [], ◌∷◌, ◌++◌, length, take, drop, get_or, map}
use Rattle.std.specs.Prelude.{flat_map, filter}
use Rattle.std.proofs.lemmas.Bool.{cases_Bool}
use Rattle.std.proofs.lemmas.List.{map-append, append-nil, take_all, take_more, drop_more, take-append-drop}
use Rattle.std.proofs.lemmas.Grind.{flat_map-append}
use Rattle.fw_text.specs.Texts.{hash}
use Rattle.fw_frame.specs.declared.frame.Proof.{Proof}
use Rattle.fw_frame.specs.declared.frame.Signer.{Signer}
use Rattle.fw_frame.specs.Plain.{plain_entry, plain_signer, plain_proof}
use Rattle.fw_frame.specs.Parts.{Piece, entry_piece, entry_digest, signer_pieces, proof_pieces}
use Rattle.fw_directory.specs.Directories.{PlainDirectory}
use Rattle.fw_valid.specs.Checks.{Checks}
use Rattle.fw_valid.proofs.Joining.{checks_more, checks_stop}

-- the pieces of a list are those of its items
abbrev pub IsItemwise : {X : Type 0} → (List X → List Piece) → Type 0
IsItemwise {X} g = (xs ys : List X) → g (xs ++ ys) ≡ g xs ++ g ys

pub itemwise_map : {X Y : Type 0} (f : Y → Piece) (h : X → Y) → IsItemwise (λ (xs : List X). map f (map h xs))
itemwise_map f h = λ xs ys. ap (map f) (map-append h xs ys) ∙ map-append f (map h xs) (map h ys)

pub itemwise_flat : {X Y : Type 0} (f : Y → List Piece) (h : X → Y) → IsItemwise (λ (xs : List X). flat_map f (map h xs))
itemwise_flat f h = λ xs ys. ap (flat_map f) (map-append h xs ys) ∙ flat_map-append f (map h xs) (map h ys)

-- one more item that is valid
pub checks_next : {X : Type 0} (d : PlainDirectory) (each : ℕ) (found : Bool) (s t u : ℕ) (g : List X → List Piece) (xs : List X) (i : ℕ) (x : X) → IsItemwise g → i < length xs → found ≡ true → Checks d each true s t (g (take i xs)) → Checks d each found t u (g (get_or xs i x ∷ [])) → Checks d each true s u (g (take (i + 1) xs))
checks_next d each found s t u g xs i x itemwise inside is before here =
    let all : g (take (i + 1) xs) ≡ g (take i xs) ++ g (get_or xs i x ∷ []) = ap g (take_more xs i x inside) ∙ itemwise (take i xs) (get_or xs i x ∷ []) in
    subst (Checks d each true s u) (sym all)
    (checks_more d each true true s t u (g (take i xs)) (g (get_or xs i x ∷ [])) refl before (subst (λ b. Checks d each b t u (g (get_or xs i x ∷ []))) is here))

-- the first that is not
pub checks_broken : {X : Type 0} (d : PlainDirectory) (each : ℕ) (found : Bool) (s t u : ℕ) (g : List X → List Piece) (xs : List X) (i : ℕ) (x : X) → IsItemwise g → i < length xs → found ≡ false → Checks d each true s t (g (take i xs)) → Checks d each found t u (g (get_or xs i x ∷ [])) → Checks d each false s u (g xs)
checks_broken {X = X} d each found s t u g xs i x itemwise inside is before here =
    let item : List X = get_or xs i x ∷ [] in
    let rest : List X = drop (i + 1) xs in
    let split : xs ≡ take i xs ++ (item ++ rest) = sym (take-append-drop i xs) ∙ ap (λ z. take i xs ++ z) (drop_more xs i x inside) in
    let all : g xs ≡ g (take i xs) ++ (g item ++ g rest) = ap g split ∙ itemwise (take i xs) (item ++ rest) ∙ ap (λ z. g (take i xs) ++ z) (itemwise item rest) in
    subst (Checks d each false s u) (sym all)
    (checks_more d each true false s t u (g (take i xs)) (g item ++ g rest) refl before (checks_stop d each found t u (g item) (g rest) is here))

-- all of them
pub checks_all : {X : Type 0} (d : PlainDirectory) (each s t : ℕ) (g : List X → List Piece) (xs : List X) (i : ℕ) → length xs ≤ i → Checks d each true s t (g (take i xs)) → Checks d each true s t (g xs)
checks_all d each s t g xs i whole checks = subst (λ z. Checks d each true s t (g z)) (take_all i xs whole) checks

-- the pieces of an item alone
pub checks_alone : (d : PlainDirectory) (each : ℕ) (found : Bool) (s t : ℕ) (xs : List Piece) → Checks d each found s t xs → Checks d each found s t (xs ++ [])
checks_alone d each found s t xs checks = subst (Checks d each found s t) (sym (append-nil xs)) checks

-- those of an item in a list
pub checks_item : {X Y : Type 0} (d : PlainDirectory) (each : ℕ) (found : Bool) (s t : ℕ) (f : Y → List Piece) (h : X → Y) (xs : List X) (i : ℕ) (x : X) → x ≡ get_or xs i x → Checks d each found s t (f (h x)) → Checks d each found s t (flat_map f (map h (get_or xs i x ∷ [])))
checks_item d each found s t f h xs i x is checks =
    subst (λ z. Checks d each found s t (flat_map f (map h (z ∷ [])))) is (checks_alone d each found s t (f (h x)) checks)

-- an entry and its votes are a proof
pub checks_proof : (d : PlainDirectory) (found : Bool) (s t : ℕ) (q : Proof) (signers : List Signer) → signers ≡ q.signers → Checks d 257 found s t (entry_piece (plain_entry q.entry) ∷ signer_pieces 0 q.view q.number (entry_digest hash (plain_entry q.entry)) (map plain_signer signers)) → Checks d 257 found s t (proof_pieces hash (plain_proof q))
checks_proof d found s t q signers same checks =
    subst (λ z. Checks d 257 found s t (entry_piece (plain_entry q.entry) ∷ signer_pieces 0 q.view q.number (entry_digest hash (plain_entry q.entry)) (map plain_signer z))) same checks

-- where one of the items passes a test, some do
pub some_pass : {X : Type 0} (test : X → Bool) (xs : List X) (i : ℕ) (x : X) → i < length xs → test (get_or xs i x) ≡ true → filter test xs ≢ []
some_pass test [] i x inside passes = absurd (omega arith)
some_pass test (y ∷ ys) zero x inside passes = rw passes (λ e. cc)
some_pass test (y ∷ ys) (suc i) x inside passes = elim (cases_Bool (test y)) [
  | inl is ↦ rw is (λ e. cc)
  | inr not ↦ rw not (some_pass test ys i x (omega arith) passes)
]
