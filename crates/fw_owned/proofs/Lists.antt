-- One item more, lent to a frame.
use Rattle.std.proofs.Common.{◌≡◌, ℕ, ◌+◌, ◌<◌, List, [], ◌∷◌, ◌++◌, map, take, length, get_or, All, refl, sym, ap, subst, ◌∙◌, add-one, arith}
use Rattle.std.proofs.lemmas.List.{map-append, length-append}
use Rattle.std.proofs.lemmas.List.Elements.{All-append, All-cons, All-nil}
use Rattle.std.proofs.Math.Seq.{take-suc}

-- the items up to the one at a place
up_to_place : {A : Type 0} (items all : List A) (k : ℕ) (item : A) → items ≡ all → k < length items → item ≡ get_or items k item → take (k + 1) all ≡ take k all ++ item ∷ []
up_to_place items all k item same below is =
    ap (take (k + 1)) (sym same) ∙ ap (λ (n : ℕ). take n items) (add-one k) ∙ take-suc items k item below ∙ ap (λ (x : _). take k items ++ x ∷ []) (sym is) ∙ ap (λ (l : List _). take k l ++ item ∷ []) same

-- what is seen of them
pub lent_more : {Lent Seen Kept : Type 0} (seen : Lent → Seen) (kept : Kept → Seen) (lent new : List Lent) (one : Lent) (items all : List Kept) (k : ℕ) (item : Kept)
    → map seen lent ≡ map kept (take k all) → new ≡ lent ++ one ∷ [] → seen one ≡ kept item → items ≡ all → k < length items → item ≡ get_or items k item → map seen new ≡ map kept (take (k + 1) all)
lent_more seen kept lent new one items all k item same pushed is items_are below at =
    ap (map seen) pushed ∙ map-append seen lent (one ∷ []) ∙ ap (λ l. l ++ seen one ∷ []) same ∙ ap (λ x. map kept (take k all) ++ x ∷ []) is
    ∙ sym (map-append kept (take k all) (item ∷ [])) ∙ ap (map kept) (sym (up_to_place items all k item items_are below at))

pub len_more : {Lent : Type 0} (lent new : List Lent) (one : Lent) (k : ℕ) → length lent ≡ k → new ≡ lent ++ one ∷ [] → length new ≡ k + 1
len_more lent new one k len pushed = ap length pushed ∙ length-append lent (one ∷ []) ∙ ap (λ n. n + 1) len

pub all_more : {Lent : Type 0} (P : Lent → Type 0) (lent new : List Lent) (one : Lent) → All P lent → P one → new ≡ lent ++ one ∷ [] → All P new
all_more P lent new one all is pushed = subst (All P) (sym pushed) (All-append P lent (one ∷ []) all (All-cons P one [] is (All-nil P)))

pub twice : {A B C : Type 0} (f : B → C) (g : A → B) (xs : List A) → map f (map g xs) ≡ map (λ x. f (g x)) xs
twice f g [] = refl
twice f g (x ∷ xs) = ap (λ all. f (g x) ∷ all) (twice f g xs)
