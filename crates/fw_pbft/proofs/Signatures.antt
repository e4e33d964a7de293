-- A signer's signature on a vote among those that are kept, and after one more.
use Rattle.std.proofs.Common.{◌≡◌, ℕ, List, [], ◌∷◌, ◌++◌, Bool, true, false, ◌&&◌, not, map, filter, Option, Some, None, bytes_eq, refl, sym, ap, ◌∙◌, inl, inr}
use Rattle.std.specs.Prelude.{is_some, if◌then◌else◌}
use Rattle.std.specs.Borrow.{Bor}
use Rattle.std.specs.List.{find}
use Rattle.std.specs.Option.{option_map, option_copied}
use Rattle.std.proofs.lemmas.Bool.{cases_Bool}
use Rattle.std.proofs.lemmas.List.{map-append, append-nil}
use Rattle.std.proofs.lemmas.List.Elements.{filter-append}
use Rattle.fw_base.specs.declared.params.Params.{Params}
use Rattle.fw_pbft.specs.declared.votes.KeptVote.{KeptVote}
use Rattle.fw_pbft.specs.Tallies.{Ballot, Tally, is_at, ballots_at, signature_among, signature_of, has_voted, ballots_with, ballot_of}

abbrev pub tally : Params → List KeptVote → Tally
tally p kept = record { params = p; ballots = map ballot_of kept }

abbrev pub ballot : ℕ → ℕ → ℕ → ℕ → List ℕ → List ℕ → Ballot
ballot phase view number signer digest sig = record { phase = phase; view = view; number = number; signer = signer; digest = digest; sig = sig }

found_in : (phase view number : ℕ) (digest : List ℕ) (signer : ℕ) (kept : List KeptVote) → option_map (λ v. v.sig) (find (λ v. is_at phase view number signer (ballot_of v) && bytes_eq v.digest digest) kept) ≡ signature_among (filter (is_at phase view number signer) (map ballot_of kept)) digest
found_in phase view number digest signer [] = refl
found_in phase view number digest signer (v ∷ kept) = elim (cases_Bool (is_at phase view number signer (ballot_of v))) [
  | inl here ↦ elim (cases_Bool (bytes_eq v.digest digest)) [
    | inl is ↦ rw (here, is) refl
    | inr other ↦ rw (here, other) (found_in phase view number digest signer kept)
  ]
  | inr there ↦ rw there (found_in phase view number digest signer kept)
]

pub found : (p : Params) (phase view number : ℕ) (digest : List ℕ) (signer : ℕ) (kept : List KeptVote) → option_map (λ v. v.sig) (find (λ v. is_at phase view number signer (ballot_of v) && bytes_eq v.digest digest) kept) ≡ signature_of (tally p kept) phase view number digest signer
found p phase view number digest signer kept = found_in phase view number digest signer kept

copied_some : {B : Type 0} (g : KeptVote → B) (o : Option (Bor KeptVote)) → is_some o ≡ is_some (option_map g (option_copied o))
copied_some g None = refl
copied_some g (Some r) = refl

-- whether one is found
pub voted : (p : Params) (phase view number : ℕ) (digest : List ℕ) (signer : ℕ) (kept : List KeptVote) (o : Option (Bor KeptVote)) → option_copied o ≡ find (λ v. is_at phase view number signer (ballot_of v) && bytes_eq v.digest digest) kept → is_some o ≡ has_voted (tally p kept) phase view number digest signer
voted p phase view number digest signer kept o is =
    copied_some (λ v. v.sig) o ∙ ap (λ f. is_some (option_map (λ (v : KeptVote). v.sig) f)) is ∙ ap is_some (found p phase view number digest signer kept)

one_more : (phase view number signer : ℕ) (b : Ballot) (known : Bool) (had : List Ballot) → known ≡ false → had ++ filter (is_at phase view number signer) (b ∷ []) ≡ (if is_at phase view number signer b && not known then had ++ b ∷ [] else had)
one_more phase view number signer b known had fresh = elim (cases_Bool (is_at phase view number signer b)) [
  | inl here ↦ rw (here, fresh) refl
  | inr there ↦ rw there (append-nil had)
]

-- a vote that wasn't known is one more
pub added : (p : Params) (kept : List KeptVote) (v : KeptVote) (phase view number signer : ℕ) → has_voted (tally p kept) v.phase v.view v.number v.digest v.signer ≡ false
    → ballots_at (tally p (kept ++ v ∷ [])) phase view number signer ≡ ballots_with (tally p kept) (ballot_of v) phase view number signer
added p kept v phase view number signer fresh =
    ap (filter (is_at phase view number signer)) (map-append ballot_of kept (v ∷ []))
    ∙ filter-append (is_at phase view number signer) (map ballot_of kept) (ballot_of v ∷ [])
    ∙ one_more phase view number signer (ballot_of v) (has_voted (tally p kept) v.phase v.view v.number v.digest v.signer) (ballots_at (tally p kept) phase view number signer) fresh

-- one that was known changes nothing
pub same : (t : Tally) (b : Ballot) (phase view number signer : ℕ) → has_voted t b.phase b.view b.number b.digest b.signer ≡ true → ballots_at t phase view number signer ≡ ballots_with t b phase view number signer
same t b phase view number signer known = elim (cases_Bool (is_at phase view number signer b)) [
  | inl here ↦ rw (here, known) refl
  | inr there ↦ rw there refl
]
