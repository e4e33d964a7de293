-- Names in words, one after another.
use Rattle.std.proofs.Common.{◌≡◌, ◌≢◌, ℕ, ◌+◌, true, nat_le, List, [], ◌∷◌, ◌++◌, length, length-append, map, refl, ap, ◌∙◌, arith}
use Rattle.std.proofs.lemmas.Bool.{and_parts, and_from}
use Rattle.std.proofs.lemmas.List.Folds.{list_all-append}
use Rattle.std.specs.List.{list_all}
use Rattle.fw_op.specs.declared.reply.Name.{Name}
use Rattle.fw_op.specs.Replies.{name_word, name_fits, AreNameWords}
use Rattle.fw_op.proofs.Listing.{no_list}

-- the words begin with so many names, and the rest is left
abbrev pub BeginWith : ℕ → List (List ℕ) → List (List ℕ) → ℕ → Type 0
BeginWith clients whole left count = (names : List Name) × (whole ≡ map name_word names ++ left) × (length names ≡ count) × (list_all (name_fits clients) names ≡ true)

spelled : (xs : List Name) (n : Name) (next : List (List ℕ)) → map name_word xs ++ name_word n ∷ next ≡ map name_word (xs ++ n ∷ []) ++ next
spelled [] n next = refl
spelled (x ∷ xs) n next = ap (λ rest. name_word x ∷ rest) (spelled xs n next)

-- and with one name more
pub one_more : (clients : ℕ) (whole next : List (List ℕ)) (word : List ℕ) (count : ℕ) (n : Name) → BeginWith clients whole (word ∷ next) count → word ≡ name_word n → name_fits clients n ≡ true
    → BeginWith clients whole next (count + 1)
one_more clients whole next word count n begun is fits =
    let names = begun.0 in
    let read : whole ≡ map name_word (names ++ n ∷ []) ++ next = begun.1 ∙ ap (λ w. map name_word names ++ w ∷ next) is ∙ spelled names n next in
    let all : list_all (name_fits clients) (names ++ n ∷ []) ≡ true =
    list_all-append (name_fits clients) names (n ∷ []) ∙ and_from (list_all (name_fits clients) names) (list_all (name_fits clients) (n ∷ [])) begun.3 (and_from (name_fits clients n) true fits refl) in
    (names ++ n ∷ [], read, omega (arith, length-append names (n ∷ []), begun.2), all)

-- where a word is no name, these are no names
pub not_names : (clients : ℕ) (whole next : List (List ℕ)) (word : List ℕ) (count : ℕ) → BeginWith clients whole (word ∷ next) count → ((a : Name) → name_fits clients a ≡ true → word ≢ name_word a) → AreNameWords clients whole → ⊥
not_names clients whole next word count begun none are =
    no_list name_word (name_fits clients) whole begun.0 word next begun.1 none are.0 (and_parts (nat_le (length are.0) 24) (list_all (name_fits clients) are.0) are.2).1 are.1
