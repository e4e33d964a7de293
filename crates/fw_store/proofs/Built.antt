-- Records that are put in order one by one.
use Rattle.std.proofs.Common.{◌≡◌, Bool, true, false, not, ◌&&◌, List, [], ◌∷◌, ◌++◌, None, refl, ap, subst, append-nil}
use Rattle.std.specs.Prelude.{fold, if◌then◌else◌, IsPermutation}
use Rattle.std.specs.List.{list_all}
use Rattle.std.specs.Ordering.{is_eq, ordering_reverse}
use Rattle.std.specs.declared.cmp.Ordering.{Ordering}
use Rattle.std.specs.declared.cmp.Ordering.TheVariants.{Less, Equal, Greater}
use Rattle.std.proofs.lemmas.Bool.{and_parts, and_from}
use Rattle.std.proofs.lemmas.List.Sorted.{IsPermutation-refl, IsPermutation-trans, IsPermutation-sym, IsPermutation-cons, IsPermutation-middle, IsPermutation-append_right}
use Rattle.fw_op.specs.declared.start.Start.{Start}
use Rattle.fw_store.specs.Store.{name_cmp, name_of, is_before, is_other, is_named, are_ordered, are_distinct, added, with_added, ordered, record_of}
use Rattle.fw_store.proofs.Names.{names_total}
use Rattle.fw_store.proofs.Order.{all-added, ordered-added}
use Rattle.fw_store.proofs.Found.{find-none}

-- none of the names of these is among the records
abbrev pub are_fresh : List Start → List Start → Bool
are_fresh rs [] = true
are_fresh rs (s ∷ starts) = list_all (is_other (name_of s)) rs && are_fresh rs starts

other-back : (o p : Ordering) → o ≡ ordering_reverse p → not (is_eq p) ≡ true → not (is_eq o) ≡ true
other-back o Less e other = ap (λ q. not (is_eq q)) e
other-back o Equal e other = cc
other-back o Greater e other = ap (λ q. not (is_eq q)) e

is_other-back : (r s : Start) → is_other (name_of r) s ≡ true → is_other (name_of s) r ≡ true
is_other-back r s other = other-back (name_cmp (name_of r) (name_of s)) (name_cmp (name_of s) (name_of r)) (names_total.antisymm (name_of r) (name_of s)) other

pub are_fresh-added : (new : Start) (rs starts : List Start) → list_all (is_other (name_of new)) starts ≡ true → are_fresh rs starts ≡ true → are_fresh (added new rs) starts ≡ true
are_fresh-added new rs [] others fresh = refl
are_fresh-added new rs (s ∷ starts) others fresh =
    let other = and_parts (is_other (name_of new) s) (list_all (is_other (name_of new)) starts) others in
    let parts = and_parts (list_all (is_other (name_of s)) rs) (are_fresh rs starts) fresh in
    and_from (list_all (is_other (name_of s)) (added new rs)) (are_fresh (added new rs) starts)
    (all-added (is_other (name_of s)) new rs parts.0 (is_other-back new s other.0)) (are_fresh-added new rs starts other.1 parts.1)

pub are_fresh-none : (starts : List Start) → are_fresh [] starts ≡ true
are_fresh-none [] = refl
are_fresh-none (s ∷ starts) = are_fresh-none starts

-- what is left to be put in order
pub record IsBuilding (rs starts : List Start) : Type 0 where
  pub order : are_ordered rs ≡ true
  pub fresh : are_fresh rs starts ≡ true
  pub distinct : are_distinct starts ≡ true

pub building-none : (s : Start) (rs starts : List Start) → IsBuilding rs (s ∷ starts) → record_of (name_of s) rs ≡ None
building-none s rs starts now = find-none (is_named (name_of s)) rs (and_parts (list_all (is_other (name_of s)) rs) (are_fresh rs starts) now.fresh).0

pub building-added : (s : Start) (rs starts : List Start) → IsBuilding rs (s ∷ starts) → IsBuilding (added s rs) starts
building-added s rs starts now =
    let fresh = and_parts (list_all (is_other (name_of s)) rs) (are_fresh rs starts) now.fresh in
    let distinct = and_parts (list_all (is_other (name_of s)) starts) (are_distinct starts) now.distinct in
    record {
      order = ordered-added s rs now.order fresh.0;
      fresh = are_fresh-added s rs starts distinct.0 fresh.1;
      distinct = distinct.1;
    }

-- the records are the same
added-same : (new : Start) (rs : List Start) → IsPermutation (new ∷ rs) (added new rs)
added-same new [] = IsPermutation-refl (new ∷ [])
added-same new (r ∷ rs) =
    elim (is_before new r) as (λ t. IsPermutation (new ∷ r ∷ rs) (if t then new ∷ r ∷ rs else r ∷ added new rs)) [
      | true ↦ IsPermutation-refl (new ∷ r ∷ rs)
      | false ↦ IsPermutation-trans (new ∷ r ∷ rs) (r ∷ new ∷ rs) (r ∷ added new rs)
          (IsPermutation-sym (r ∷ new ∷ rs) (new ∷ r ∷ rs) (IsPermutation-middle (r ∷ []) new rs))
          (IsPermutation-cons r (new ∷ rs) (added new rs) (added-same new rs))
    ]

fold-same : (rs starts : List Start) → IsPermutation (starts ++ rs) (fold with_added rs starts)
fold-same rs [] = IsPermutation-refl rs
fold-same rs (s ∷ starts) =
    IsPermutation-trans (s ∷ (starts ++ rs)) (starts ++ s ∷ rs) (fold with_added (added s rs) starts)
    (IsPermutation-sym (starts ++ s ∷ rs) (s ∷ (starts ++ rs)) (IsPermutation-middle starts s rs))
    (IsPermutation-trans (starts ++ s ∷ rs) (starts ++ added s rs) (fold with_added (added s rs) starts)
    (IsPermutation-append_right starts (s ∷ rs) (added s rs) (added-same s rs)) (fold-same (added s rs) starts))

pub ordered-same : (starts : List Start) → IsPermutation starts (ordered starts)
ordered-same starts = let P : List Start → Type 0 = λ xs. IsPermutation xs (ordered starts) in subst P (append-nil starts) (fold-same [] starts)
