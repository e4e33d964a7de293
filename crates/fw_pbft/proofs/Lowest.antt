-- The lowest signers, as many as a quorum has.
use Rattle.std.proofs.Common.{◌≡◌, ℕ, suc, ◌+◌, ◌-◌, ◌<◌, ◌≤◌, List, [], ◌∷◌, ◌++◌, length, map, Option, Some, None, refl, sym, ap, ◌∙◌, arith, append_assoc, filter_map}
use Rattle.std.proofs.lemmas.List.{map-append, length-append}
use Rattle.fw_list.specs.Lists.{numbers_from}

-- one more, with what is left
pub more_found : {A B : Type 0} (view : B → A) (f : ℕ → Option A) (all : List B) (whole : List A) (k end : ℕ) (x : B) → k < end → Some (view x) ≡ f k → map view all ++ filter_map f (numbers_from k (end - k)) ≡ whole → map view (all ++ x ∷ []) ++ filter_map f (numbers_from (k + 1) (end - (k + 1))) ≡ whole
more_found view f all whole k end x below is before =
    let left : end - k ≡ suc (end - (k + 1)) = omega arith in
    let rest = filter_map f (numbers_from (k + 1) (end - (k + 1))) in
    let next : filter_map f (numbers_from k (end - k)) ≡ view x ∷ rest = rw left (rw (sym is) refl) in
    ap (λ front. front ++ rest) (map-append view all (x ∷ []))
    ∙ append_assoc (map view all) (view x ∷ []) rest
    ∙ ap (λ more. map view all ++ more) (sym next)
    ∙ before

pub none_found : {A B : Type 0} (view : B → A) (f : ℕ → Option A) (all : List B) (whole : List A) (k end : ℕ) → k < end → None ≡ f k → map view all ++ filter_map f (numbers_from k (end - k)) ≡ whole → map view all ++ filter_map f (numbers_from (k + 1) (end - (k + 1))) ≡ whole
none_found view f all whole k end below is before =
    let left : end - k ≡ suc (end - (k + 1)) = omega arith in
    let rest = filter_map f (numbers_from (k + 1) (end - (k + 1))) in
    let next : filter_map f (numbers_from k (end - k)) ≡ rest = rw left (rw (sym is) refl) in
    ap (λ more. map view all ++ more) (sym next) ∙ before

-- there is room for one more
pub room : {A : Type 0} (signers : List A) (x : A) (len q : ℕ) → len ≡ length signers → (len ≡ q → ⊥) → length signers ≤ q → length (signers ++ x ∷ []) ≤ q
room signers x len q is other few =
    let more = length-append signers (x ∷ []) in
    omega arith
