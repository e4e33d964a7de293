-- The words of a reply, and its text.
use Rattle.std.proofs.Common.{◌≡◌, ℕ, ◌<◌, ◌^◌, true, not, nat_lt, nat_le, List, [], ◌∷◌, ◌++◌, length, map, refl, ap, ◌∙◌, arith, codes, decimal}
use Rattle.std.proofs.lemmas.Bool.{and_parts, and_from, ltb-true}
use Rattle.std.proofs.lemmas.List.Folds.{list_all-append}
use Rattle.std.specs.List.{list_all, flat_map}
use Rattle.fw_op.specs.declared.reply.Name.{Name}
use Rattle.fw_op.specs.declared.reply.Reply.{Reply}
use Rattle.fw_op.specs.declared.reply.Reply.TheVariants.{Done, Value, Absent, Differs, Count, Keys, Bad, Old, Null}
use Rattle.fw_op.specs.Keys.{is_key}
use Rattle.fw_op.specs.Words.{sentence, following, client_word, is_blank, words_of}
use Rattle.fw_op.specs.Replies.{name_word, name_fits, reply_words, reply_text, reply_fits}
use Rattle.fw_op.proofs.Sentences.{is_whole, words_sentence, sentence-cons, whole_decimal, whole_key, whole_value, whole_client}

following-names : (names : List Name) → following (map name_word names) ≡ flat_map (λ name. 32 ∷ name_word name) names
following-names [] = refl
following-names (name ∷ names) = ap (λ rest. (32 ∷ name_word name) ++ rest) (following-names names)

-- a word and names, each after a blank
pub sentence-names : (word : List ℕ) (names : List Name) → sentence (word ∷ map name_word names) ≡ word ++ flat_map (λ name. 32 ∷ name_word name) names
sentence-names word names = sentence-cons word (map name_word names) ∙ ap (λ rest. word ++ rest) (following-names names)

whole_name : (name : Name) (clients : ℕ) → clients < 2 ^ 32 → name_fits clients name ≡ true → is_whole (name_word name) ≡ true
whole_name name clients small fits =
    let both = and_parts (nat_lt name.owner clients) (is_key name.key) fits in
    list_all-append (λ b. not (is_blank b)) (client_word name.owner) (47 ∷ name.key)
    ∙ and_from (is_whole (client_word name.owner)) (is_whole (47 ∷ name.key)) (whole_client name.owner clients small both.0) (whole_key name.key both.1)

whole_names : (clients : ℕ) (names : List Name) → clients < 2 ^ 32 → list_all (name_fits clients) names ≡ true → list_all is_whole (map name_word names) ≡ true
whole_names clients [] small fits = refl
whole_names clients (name ∷ names) small fits =
    let both = and_parts (name_fits clients name) (list_all (name_fits clients) names) fits in
    and_from (is_whole (name_word name)) (list_all is_whole (map name_word names)) (whole_name name clients small both.0) (whole_names clients names small both.1)

-- the words of a reply's text are the reply's words
pub words_of_reply : (clients : ℕ) (reply : Reply) → clients < 2 ^ 32 → reply_fits clients reply ≡ true → words_of (reply_text reply) ≡ reply_words reply
words_of_reply clients Done small fits = refl
words_of_reply clients (Value value) small fits = words_sentence (codes "value") (value ∷ []) refl (and_from (is_whole value) true (whole_value value fits) refl)
words_of_reply clients Absent small fits = refl
words_of_reply clients Differs small fits = refl
words_of_reply clients (Count count) small fits =
    words_sentence (codes "count") (decimal count ∷ []) refl (and_from (is_whole (decimal count)) true (whole_decimal count (omega (arith, ltb-true count (2 ^ 32) fits))) refl)
words_of_reply clients (Keys names) small fits =
    words_sentence (codes "keys") (map name_word names) refl (whole_names clients names small (and_parts (nat_le (length names) 24) (list_all (name_fits clients) names) fits).1)
words_of_reply clients Bad small fits = refl
words_of_reply clients Old small fits = refl
words_of_reply clients Null small fits = refl
