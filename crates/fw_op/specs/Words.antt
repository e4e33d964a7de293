-- Texts and their words: what stands between the blanks.
use Rattle.std.specs.Prelude.{ℕ, nat_eq, Bool, true, false, List, [], ◌∷◌, ◌++◌, codes, decimal}
use Rattle.std.specs.List.{slice_split, join_with_byte}

-- words with one blank between each two
abbrev pub sentence : List (List ℕ) → List ℕ
sentence words = join_with_byte 32 words

-- the words in order, each after a blank
abbrev pub following : List (List ℕ) → List ℕ
following [] = []
following (word ∷ words) = 32 ∷ word ++ following words

abbrev pub is_blank : ℕ → Bool
is_blank b = nat_eq b 32

abbrev pub words_of : List ℕ → List (List ℕ)
words_of text = slice_split is_blank text

-- the words of what is left, or none at the end
abbrev pub words_left : Bool → List ℕ → List (List ℕ)
words_left true rest = []
words_left false rest = words_of rest

-- `c` and the client's number
abbrev pub client_word : ℕ → List ℕ
client_word c = codes "c" ++ decimal c
