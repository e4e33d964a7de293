-- Parts that are written behind one another at the front of a list.
use Rattle.std.proofs.Common.{ℕ, ◌+◌, ◌<◌, ◌≤◌, ◌≡◌, ◌∙◌, sym, ap, List, [], ◌∷◌, ◌++◌, length, take, get_or, map}
use Rattle.std.specs.List.{flat_map}
use borrow.Rule.Slice.PartMut.{put_mid}
use Rattle.std.proofs.lemmas.List.{map-append, append-nil, take_more}
use Rattle.std.proofs.lemmas.Slice.{take-put_mid}
use Rattle.std.proofs.lemmas.Grind.{flat_map-append}

-- what one more item spells, behind what those before it spell
pub written_more : {X Y Z : Type 0} (spell : Z → List ℕ) (f : Y → Z) (h : X → Y) (xs : List X) (i : ℕ) (x : X) (at next k : ℕ) (out part : List ℕ) → i < length xs → at ≤ length out → next ≡ at + length part → part ≡ spell (f (h (get_or xs i x))) → take at out ≡ flat_map spell (map f (map h (take i xs))) → take next (put_mid at k out part) ≡ flat_map spell (map f (map h (take (i + 1) xs)))
written_more spell f h xs i x at next k out part inside room after same before =
    let more : take (i + 1) xs ≡ take i xs ++ get_or xs i x ∷ [] = take_more xs i x inside in
    let items : map f (map h (take (i + 1) xs)) ≡ map f (map h (take i xs)) ++ f (h (get_or xs i x)) ∷ [] =
    ap (λ z. map f (map h z)) more ∙ ap (map f) (map-append h (take i xs) (get_or xs i x ∷ [])) ∙ map-append f (map h (take i xs)) (h (get_or xs i x) ∷ []) in
    let spelled : flat_map spell (map f (map h (take (i + 1) xs))) ≡ flat_map spell (map f (map h (take i xs))) ++ (spell (f (h (get_or xs i x))) ++ []) =
    ap (flat_map spell) items ∙ flat_map-append spell (map f (map h (take i xs))) (f (h (get_or xs i x)) ∷ []) in
    take-put_mid at k out part next after room
    ∙ ap (λ z. z ++ part) before
    ∙ ap (λ z. flat_map spell (map f (map h (take i xs))) ++ z) (same ∙ sym (append-nil (spell (f (h (get_or xs i x))))))
    ∙ sym spelled
