-- The names that are told.
use Rattle.std.proofs.Common.{◌≡◌, ℕ, suc, add-one, drop-cons, ◌+◌, ◌-◌, ◌<◌, ◌≤◌, true, false, List, [], ◌∷◌, ◌++◌, length, take, drop, get_or, map, refl, sym, ap, ◌∙◌, arith, append_assoc, length-append}
use Rattle.fw_op.specs.declared.reply.Name.{Name}
use Rattle.fw_op.specs.declared.start.Start.{Start}
use Rattle.fw_store.specs.Store.{name_of, may_see, visible}

-- one more name, where there is room
pub take-more : (names rest : List Name) (n : Name) (k : ℕ) → length names < k → (names ++ n ∷ []) ++ take (k - length (names ++ n ∷ [])) rest ≡ names ++ take (k - length names) (n ∷ rest)
take-more names rest n k room =
    let m : ℕ = k - (length names + 1) in
    let more : k - length names ≡ suc m = omega arith in
    let less : k - length (names ++ n ∷ []) ≡ m = omega (arith, length-append names (n ∷ [])) in
    rw (less, more) (append_assoc names (n ∷ []) (take m rest))

-- what a record adds to a view
pub visible-cons : (x : ℕ) (rs : List Start) (k : ℕ) (r : Start) → k < length rs → r ≡ get_or rs k r → may_see x r ≡ true → map name_of (visible x (drop k rs)) ≡ name_of r ∷ map name_of (visible x (drop (k + 1) rs))
visible-cons x rs k r inside is sees =
    let split : drop k rs ≡ r ∷ drop (suc k) rs = drop-cons rs k r inside ∙ ap (λ (q : Start). q ∷ drop (suc k) rs) (sym is) in
    rw (split, sees, add-one) refl

pub visible-hidden : (x : ℕ) (rs : List Start) (k : ℕ) (r : Start) → k < length rs → r ≡ get_or rs k r → may_see x r ≡ false → visible x (drop k rs) ≡ visible x (drop (k + 1) rs)
visible-hidden x rs k r inside is hidden =
    let split : drop k rs ≡ r ∷ drop (suc k) rs = drop-cons rs k r inside ∙ ap (λ (q : Start). q ∷ drop (suc k) rs) (sym is) in
    rw (split, hidden, add-one) refl

pub few-more : (names new : List Name) (n : Name) (k : ℕ) → length names < k → new ≡ names ++ n ∷ [] → length new ≤ k
few-more names new n k room is = omega (arith, ap length is, length-append names (n ∷ []))

-- a name more is told of a record that is seen
pub told-more : (x : ℕ) (names new : List Name) (rs : List Start) (k : ℕ) (r : Start) (all : List Name) → k < length rs → r ≡ get_or rs k r → may_see x r ≡ true → length names < 24 → new ≡ names ++ name_of r ∷ [] → names ++ take (24 - length names) (map name_of (visible x (drop k rs))) ≡ all → new ++ take (24 - length new) (map name_of (visible x (drop (k + 1) rs))) ≡ all
told-more x names new rs k r all inside is sees room more so_far =
    let rest = map name_of (visible x (drop (k + 1) rs)) in
    ap (λ (ns : List Name). ns ++ take (24 - length ns) rest) more
    ∙ take-more names rest (name_of r) 24 room
    ∙ ap (λ (ns : List Name). names ++ take (24 - length names) ns) (sym (visible-cons x rs k r inside is sees))
    ∙ so_far

-- and no name of a hidden one
pub told-hidden : (x : ℕ) (names new : List Name) (rs : List Start) (k : ℕ) (r : Start) (all : List Name) → k < length rs → r ≡ get_or rs k r → may_see x r ≡ false → new ≡ names → names ++ take (24 - length names) (map name_of (visible x (drop k rs))) ≡ all → new ++ take (24 - length new) (map name_of (visible x (drop (k + 1) rs))) ≡ all
told-hidden x names new rs k r all inside is hidden same so_far =
    ap (λ (ns : List Name). ns ++ take (24 - length ns) (map name_of (visible x (drop (k + 1) rs)))) same
    ∙ ap (λ (zs : List Start). names ++ take (24 - length names) (map name_of zs)) (sym (visible-hidden x rs k r inside is hidden))
    ∙ so_far
