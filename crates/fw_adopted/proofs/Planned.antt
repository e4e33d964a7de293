-- The choices up to a number, and the one at a number.
use Rattle.std.proofs.Common.{◌≡◌, ℕ, zero, suc, ◌+◌, ◌-◌, ◌<◌, ◌≤◌, inl, inr, nat_le, List, [], ◌∷◌, ◌++◌, map, Option, Some, None, refl, sym, ap, ◌∙◌, arith}
use Rattle.std.specs.Prelude.{slice_get}
use Rattle.std.specs.Option.{option_map}
use Rattle.std.proofs.lemmas.Bool.{cases_Bool, leb-true, leb-false}
use Rattle.std.proofs.lemmas.List.{map-append}
use Rattle.std.proofs.lemmas.Option.{slice_get-map}
use Rattle.fw_list.specs.Lists.{numbers_from}
use Rattle.fw_frame.specs.View.{Entry, Change}
use Rattle.fw_rules.specs.Agree.{top, choice}
use Rattle.fw_owned.specs.Pieces.{entry_of}
use Rattle.fw_owned.specs.declared.owned.OwnedEntry.{OwnedEntry}
use Rattle.fw_adopted.specs.Plans.{plan, planned}

-- a number more
numbers-suc : (first count : ℕ) → numbers_from first (suc count) ≡ numbers_from first count ++ (first + count) ∷ []
numbers-suc first zero = ap (λ (n : ℕ). n ∷ []) (omega arith)
numbers-suc first (suc count) =
    let same : (first + 1) + count ≡ first + suc count = omega arith in
    ap (λ (ns : List ℕ). first ∷ ns) (numbers-suc (first + 1) count ∙ ap (λ (n : ℕ). numbers_from (first + 1) count ++ n ∷ []) same)

numbers-more : (count : ℕ) → numbers_from 1 (count + 1) ≡ numbers_from 1 count ++ (count + 1) ∷ []
numbers-more count =
    let next : count + 1 ≡ suc count = omega arith in
    let same : 1 + count ≡ count + 1 = omega arith in
    ap (numbers_from 1) next ∙ numbers-suc 1 count ∙ ap (λ (n : ℕ). numbers_from 1 count ++ n ∷ []) same

-- a choice more
pub choices_more : (entries : List OwnedEntry) (one : OwnedEntry) (f : ℕ → Entry) (k : ℕ) → map entry_of entries ≡ map f (numbers_from 1 k) → entry_of one ≡ f (k + 1)
    → map entry_of (entries ++ one ∷ []) ≡ map f (numbers_from 1 (k + 1))
choices_more entries one f k before is =
    map-append entry_of entries (one ∷ [])
    ∙ ap (λ (es : List Entry). es ++ entry_of one ∷ []) before
    ∙ ap (λ (e : Entry). map f (numbers_from 1 k) ++ e ∷ []) is
    ∙ sym (map-append f (numbers_from 1 k) ((k + 1) ∷ []))
    ∙ sym (ap (map f) (numbers-more k))

-- the choice at a place, which is one below its number
within : (f : ℕ → Entry) (first count k : ℕ) → k < count → slice_get (map f (numbers_from first count)) k ≡ Some (f (first + k))
within f first zero k below = absurd (omega arith)
within f first (suc count) zero below = ap (λ (n : ℕ). Some (f n)) (omega arith)
within f first (suc count) (suc k) below =
    let same : (first + 1) + k ≡ first + suc k = omega arith in
    within f (first + 1) count k (omega arith) ∙ ap (λ (n : ℕ). Some (f n)) same

-- none after the last
past : (f : ℕ → Entry) (first count k : ℕ) → count ≤ k → slice_get (map f (numbers_from first count)) k ≡ None
past f first zero k above = refl
past f first (suc count) zero above = absurd (omega arith)
past f first (suc count) (suc k) above = past f (first + 1) count k (omega arith)

at_number : (cs : List Change) (n : ℕ) → 1 ≤ n → slice_get (plan cs) (n - 1) ≡ planned cs n
at_number cs n from = elim (cases_Bool (nat_le n (top cs))) [
  | inl low ↦
      let most : n ≤ top cs = leb-true _ _ low in
      let number : 1 + (n - 1) ≡ n = omega arith in
      rw low (within (choice cs) 1 (top cs) (n - 1) (omega arith) ∙ ap (λ (m : ℕ). Some (choice cs m)) number)
  | inr high ↦
      let above : top cs < n = leb-false _ _ high in
      rw high (past (choice cs) 1 (top cs) (n - 1) (omega arith))
]

pub planned_at : (cs : List Change) (entries : List OwnedEntry) (n : ℕ) (o : Option OwnedEntry) → 1 ≤ n → map entry_of entries ≡ plan cs → o ≡ slice_get entries (n - 1) → option_map entry_of o ≡ planned cs n
planned_at cs entries n o from is found =
    ap (option_map entry_of) found
    ∙ sym (slice_get-map entry_of entries (n - 1))
    ∙ ap (λ (es : List Entry). slice_get es (n - 1)) is
    ∙ at_number cs n from
