-- The greatest number of proofs, change by change.
use Rattle.std.proofs.Common.{◌≡◌, ℕ, ◌+◌, ◌<◌, max, List, [], ◌∷◌, ◌++◌, map, length, drop, drop-cons, add-one, get_or, refl, ap, ◌∙◌, arith}
use Rattle.std.proofs.lemmas.List.{map-append}
use Rattle.fw_frame.specs.View.{Proof, Change}
use Rattle.fw_rules.specs.Agree.{greatest, top, all_proofs}
use Rattle.fw_owned.specs.Pieces.{proof_of, change_of}
use Rattle.fw_owned.specs.declared.owned.OwnedProof.{OwnedProof}
use Rattle.fw_owned.specs.declared.owned.OwnedChange.{OwnedChange}

greatest-append : (xs ys : List ℕ) → greatest (xs ++ ys) ≡ max (greatest xs) (greatest ys)
greatest-append [] ys = omega arith
greatest-append (x ∷ xs) ys =
    let rest = greatest-append xs ys in
    omega (arith, rest)

abbrev pub owned_numbers : List OwnedProof → List ℕ
owned_numbers qs = map (λ (q : OwnedProof). q.number) qs

abbrev seen_numbers : List Proof → List ℕ
seen_numbers qs = map (λ (q : Proof). q.number) qs

same_numbers : (qs : List OwnedProof) → seen_numbers (map proof_of qs) ≡ owned_numbers qs
same_numbers [] = refl
same_numbers (q ∷ qs) = ap (λ (ns : List ℕ). q.number ∷ ns) (same_numbers qs)

-- the first change and the others
top-cons : (c : OwnedChange) (cs : List OwnedChange) → top (map change_of (c ∷ cs)) ≡ max (greatest (owned_numbers c.proofs)) (top (map change_of cs))
top-cons c cs =
    ap greatest (map-append (λ (q : Proof). q.number) (map proof_of c.proofs) (all_proofs (map change_of cs)))
    ∙ greatest-append (seen_numbers (map proof_of c.proofs)) (seen_numbers (all_proofs (map change_of cs)))
    ∙ ap (λ (ns : List ℕ). max (greatest ns) (top (map change_of cs))) (same_numbers c.proofs)

-- a change more
pub top_next : (cs : List OwnedChange) (k most next all : ℕ) (d : OwnedChange) → k < length cs → max most (top (map change_of (drop k cs))) ≡ all
    → next ≡ max most (greatest (owned_numbers (get_or cs k d).proofs)) → max next (top (map change_of (drop (k + 1) cs))) ≡ all
top_next cs k most next all d below before is =
    let here : drop k cs ≡ get_or cs k d ∷ drop (k + 1) cs = rw (add-one k) (drop-cons cs k d below) in
    let parts : top (map change_of (drop k cs)) ≡ max (greatest (owned_numbers (get_or cs k d).proofs)) (top (map change_of (drop (k + 1) cs))) =
    ap (λ (l : List OwnedChange). top (map change_of l)) here ∙ top-cons (get_or cs k d) (drop (k + 1) cs) in
    omega (arith, before, is, parts)
