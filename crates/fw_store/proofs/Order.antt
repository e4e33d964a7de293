-- Lists in strict order of names.
use Rattle.std.proofs.Common.{◌≡◌, ℕ, suc, zero, ◌<◌, Bool, true, false, ◌&&◌, not, List, [], ◌∷◌, length, take, drop, get_or, map, refl, ap, ◌∙◌, arith}
use Rattle.std.specs.Prelude.{filter, if◌then◌else◌}
use Rattle.std.specs.Ordering.{is_lt, is_eq, ordering_reverse}
use Rattle.std.specs.declared.cmp.Ordering.{Ordering}
use Rattle.std.specs.declared.cmp.Ordering.TheVariants.{Less, Equal, Greater}
use Rattle.std.specs.List.{list_all}
use Rattle.std.proofs.lemmas.Bool.{and_parts, and_from, both_ways}
use Rattle.fw_op.specs.declared.reply.Name.{Name}
use Rattle.fw_op.specs.declared.start.Start.{Start}
use Rattle.fw_store.specs.Store.{name_of, is_before, are_ordered, added, name_cmp, is_other}
use Rattle.fw_store.proofs.Names.{names_total, before-before}

-- what each element passes
pub all-at : {X : Type 0} (p : X → Bool) (xs : List X) (k : ℕ) (d : X) → list_all p xs ≡ true → k < length xs → p (get_or xs k d) ≡ true
all-at p [] k d all inside = absurd (omega arith)
all-at p (x ∷ xs) zero d all inside = (and_parts (p x) (list_all p xs) all).0
all-at p (x ∷ xs) (suc k) d all inside = all-at p xs k d (and_parts (p x) (list_all p xs) all).1 (omega arith)

pub all-imp : {X : Type 0} (p q : X → Bool) → ((x : X) → p x ≡ true → q x ≡ true) → (xs : List X) → list_all p xs ≡ true → list_all q xs ≡ true
all-imp p q imp [] all = refl
all-imp p q imp (x ∷ xs) all =
    let parts = and_parts (p x) (list_all p xs) all in
    and_from (q x) (list_all q xs) (imp x parts.0) (all-imp p q imp xs parts.1)

pub all-filter : {X : Type 0} (p q : X → Bool) (xs : List X) → list_all q xs ≡ true → list_all q (filter p xs) ≡ true
all-filter p q [] all = refl
all-filter p q (x ∷ xs) all = grind (arith, all-filter p q xs, and_parts (q x) (list_all q xs) all)

pub filter-all : {X : Type 0} (p : X → Bool) (xs : List X) → list_all p xs ≡ true → filter p xs ≡ xs
filter-all p [] all = refl
filter-all p (x ∷ xs) all = grind (arith, filter-all p xs, and_parts (p x) (list_all p xs) all)

-- in order, all that stand in front of a record come before it, and it comes before all that stand behind it
pub before-take : (rs : List Start) (k : ℕ) (d : Start) → are_ordered rs ≡ true → k < length rs → list_all (λ r. is_before r (get_or rs k d)) (take k rs) ≡ true
before-take [] k d order inside = absurd (omega arith)
before-take (r ∷ rs) zero d order inside = refl
before-take (r ∷ rs) (suc k) d order inside =
    let parts = and_parts (list_all (is_before r) rs) (are_ordered rs) order in
    and_from (is_before r (get_or rs k d)) (list_all (λ q. is_before q (get_or rs k d)) (take k rs))
    (all-at (is_before r) rs k d parts.0 (omega arith))
    (before-take rs k d parts.1 (omega arith))

pub after-drop : (rs : List Start) (k : ℕ) (d : Start) → are_ordered rs ≡ true → k < length rs → list_all (is_before (get_or rs k d)) (drop (suc k) rs) ≡ true
after-drop [] k d order inside = absurd (omega arith)
after-drop (r ∷ rs) zero d order inside = (and_parts (list_all (is_before r) rs) (are_ordered rs) order).0
after-drop (r ∷ rs) (suc k) d order inside = after-drop rs k d (and_parts (list_all (is_before r) rs) (are_ordered rs) order).1 (omega arith)

-- what keeps the order
pub ordered-filter : (p : Start → Bool) (rs : List Start) → are_ordered rs ≡ true → are_ordered (filter p rs) ≡ true
ordered-filter p [] order = refl
ordered-filter p (r ∷ rs) order =
    let parts = and_parts (list_all (is_before r) rs) (are_ordered rs) order in
    grind (arith, all-filter p (is_before r) rs parts.0, ordered-filter p rs parts.1)

ordered-else : (o p : Ordering) → o ≡ ordering_reverse p → is_lt o ≡ false → not (is_eq p) ≡ true → is_lt p ≡ true
ordered-else o Less e after other = refl
ordered-else o Equal e after other = other
ordered-else o Greater e after other = absurd (both_ways (is_lt o) after (ap is_lt e))

pub all_before-map : (f : Start → Start) → ((r : Start) → name_of (f r) ≡ name_of r) → (q : Start) (rs : List Start) → list_all (is_before q) (map f rs) ≡ list_all (is_before q) rs
all_before-map f same q [] = refl
all_before-map f same q (r ∷ rs) = rw (same r, all_before-map f same q rs)

pub ordered-map : (f : Start → Start) → ((r : Start) → name_of (f r) ≡ name_of r) → (rs : List Start) → are_ordered (map f rs) ≡ are_ordered rs
ordered-map f same [] = refl
ordered-map f same (r ∷ rs) =
    let here : list_all (is_before (f r)) (map f rs) ≡ list_all (is_before r) rs = all_before-map f same (f r) rs ∙ ap (λ (n : Name). list_all (λ q. is_lt (name_cmp n (name_of q))) rs) (same r) in
    rw (here, ordered-map f same rs)

pub all-added : (p : Start → Bool) (new : Start) (rs : List Start) → list_all p rs ≡ true → p new ≡ true → list_all p (added new rs) ≡ true
all-added p new [] all here = grind (arith)
all-added p new (r ∷ rs) all here = grind (arith, all-added p new rs, and_parts (p r) (list_all p rs) all)

-- of two names that differ and don't come in this order, the other is the order
pub else-before : (new r : Start) → is_before new r ≡ false → is_other (name_of new) r ≡ true → is_before r new ≡ true
else-before new r after other = ordered-else (name_cmp (name_of new) (name_of r)) (name_cmp (name_of r) (name_of new)) (names_total.antisymm (name_of new) (name_of r)) after other

pub ordered-added : (new : Start) (rs : List Start) → are_ordered rs ≡ true → list_all (is_other (name_of new)) rs ≡ true → are_ordered (added new rs) ≡ true
ordered-added new [] order others = refl
ordered-added new (r ∷ rs) order others =
    let parts = and_parts (list_all (is_before r) rs) (are_ordered rs) order in
    let other = and_parts (is_other (name_of new) r) (list_all (is_other (name_of new)) rs) others in
    elim (is_before new r) as (λ t. is_before new r ≡ t → are_ordered (if t then new ∷ r ∷ rs else r ∷ added new rs) ≡ true) [
      | true ↦ λ e. and_from (is_before new r && list_all (is_before new) rs) (list_all (is_before r) rs && are_ordered rs)
          (and_from (is_before new r) (list_all (is_before new) rs) e (all-imp (is_before r) (is_before new) (λ q. before-before new r q e) rs parts.0)) order
      | false ↦ λ e. and_from (list_all (is_before r) (added new rs)) (are_ordered (added new rs))
          (all-added (is_before r) new rs parts.0 (else-before new r e other.0)) (ordered-added new rs parts.1 other.1)
    ] refl
