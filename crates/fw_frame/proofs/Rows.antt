-- Lists that a loop goes over: one more number at the end, and an item of a mapped list.
use Rattle.std.proofs.Common.{◌≡◌, ℕ, zero, suc, ◌+◌, ◌<◌, List, [], ◌∷◌, ◌++◌, map, length, get_or, All, sym, ap, subst, ◌∙◌, arith, add-zero, zero-add, add-one, append_assoc}
use Rattle.std.proofs.lemmas.List.{map-append, get_or-map}
use Rattle.std.proofs.lemmas.List.Elements.{All-get_or}
use Rattle.std.proofs.Math.ListN.{length-map}
use Rattle.fw_list.specs.Lists.{numbers_from}

numbers_from-suc : (first count : ℕ) → numbers_from first (suc count) ≡ numbers_from first count ++ (first + count) ∷ []
numbers_from-suc first zero = ap (λ n. n ∷ []) (sym (add-zero first))
numbers_from-suc first (suc count) =
    let same : first + 1 + count ≡ first + suc count = omega arith in
    ap (λ ns. first ∷ ns) (numbers_from-suc (first + 1) count ∙ ap (λ n. numbers_from (first + 1) count ++ n ∷ []) same)

numbers_from-more : (count : ℕ) → numbers_from 0 (count + 1) ≡ numbers_from 0 count ++ count ∷ []
numbers_from-more count = rw add-one (numbers_from-suc 0 count ∙ ap (λ n. numbers_from 0 count ++ n ∷ []) (zero-add count))

-- what the numbers so far give, and then what the next gives
pub map_numbers_more : {X : Type 0} (f : ℕ → X) (before : List X) (count : ℕ) → before ++ map f (numbers_from 0 (count + 1)) ≡ (before ++ map f (numbers_from 0 count)) ++ f count ∷ []
map_numbers_more f before count =
    ap (λ ns. before ++ map f ns) (numbers_from-more count) ∙ simp (map-append, append_assoc)

-- what holds of each item of a mapped list holds of the mapped item at an index
pub All_map_at : {X Y : Type 0} (P : Y → Type 0) (f : X → Y) (xs : List X) (i : ℕ) (d : X) → i < length xs → All P (map f xs) → P (f (get_or xs i d))
All_map_at P f xs i d below all =
    let inside : i < length (map f xs) = simp length-map below in
    subst P (get_or-map f xs i d (f d) below) (All-get_or P (map f xs) i (f d) inside all)
