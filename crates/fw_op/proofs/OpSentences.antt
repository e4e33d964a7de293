-- The words of an operation, and its text.
use Rattle.std.proofs.Common.{◌≡◌, ◌≢◌, ℕ, ◌<◌, ◌^◌, true, ◌&&◌, List, [], ◌∷◌, length, refl, codes, nat_lt, nat_le}
use Rattle.std.proofs.lemmas.Bool.{and_parts, and_from}
use Rattle.std.specs.List.{list_all}
use Rattle.fw_op.specs.declared.op.Op.{Op}
use Rattle.fw_op.specs.declared.op.Op.TheVariants.{Put, Get, Del, Cas, Grant, Revoke, Count, Keys}
use Rattle.fw_op.specs.Keys.{is_key, is_value}
use Rattle.fw_op.specs.Words.{sentence, client_word, words_of}
use Rattle.fw_op.specs.Ops.{op_words, op_text, op_bytes, op_fits}
use Rattle.fw_op.proofs.Sentences.{is_whole, words_sentence, whole_key, whole_value, whole_client}

one_word : (a : List ℕ) → is_whole a ≡ true → list_all is_whole (a ∷ []) ≡ true
one_word a h = and_from (is_whole a) true h refl

two_words : (a b : List ℕ) → is_whole a ≡ true → is_whole b ≡ true → list_all is_whole (a ∷ b ∷ []) ≡ true
two_words a b g h = and_from (is_whole a) (list_all is_whole (b ∷ [])) g (one_word b h)

three_words : (a b c : List ℕ) → is_whole a ≡ true → is_whole b ≡ true → is_whole c ≡ true → list_all is_whole (a ∷ b ∷ c ∷ []) ≡ true
three_words a b c f g h = and_from (is_whole a) (list_all is_whole (b ∷ c ∷ [])) f (two_words b c g h)

-- no word of an operation has a blank
pub whole_op : (clients : ℕ) (op : Op) → clients < 2 ^ 32 → op_fits clients op ≡ true → list_all is_whole (op_words op) ≡ true
whole_op clients (Put key value) small fits =
    let both = and_parts (is_key key) (is_value value) fits in
    three_words (codes "put") key value refl (whole_key key both.0) (whole_value value both.1)
whole_op clients (Get owner key) small fits =
    let both = and_parts (nat_lt owner clients) (is_key key) fits in
    three_words (codes "get") (client_word owner) key refl (whole_client owner clients small both.0) (whole_key key both.1)
whole_op clients (Del key) small fits = two_words (codes "del") key refl (whole_key key fits)
whole_op clients (Cas key old new) small fits =
    let short = nat_le (length (op_bytes (Cas key old new))) 510 in
    let abc = and_parts (is_key key && is_value old && is_value new) short fits in
    let ab = and_parts (is_key key && is_value old) (is_value new) abc.0 in
    let a = and_parts (is_key key) (is_value old) ab.0 in
    and_from (is_whole (codes "cas")) (list_all is_whole (key ∷ old ∷ new ∷ [])) refl (three_words key old new (whole_key key a.0) (whole_value old a.1) (whole_value new ab.1))
whole_op clients (Grant key client) small fits =
    let both = and_parts (is_key key) (nat_lt client clients) fits in
    three_words (codes "grant") key (client_word client) refl (whole_key key both.0) (whole_client client clients small both.1)
whole_op clients (Revoke key client) small fits =
    let both = and_parts (is_key key) (nat_lt client clients) fits in
    three_words (codes "revoke") key (client_word client) refl (whole_key key both.0) (whole_client client clients small both.1)
whole_op clients Count small fits = refl
whole_op clients Keys small fits = refl

-- the words of an operation's text are the operation's words
pub words_of_op : (clients : ℕ) (op : Op) → clients < 2 ^ 32 → op_fits clients op ≡ true → words_of (op_text op) ≡ op_words op
words_of_op clients op small fits = of_words (op_words op) (has_words op) (whole_op clients op small fits)
  where
    of_words : (ws : List (List ℕ)) → ws ≢ [] → list_all is_whole ws ≡ true → words_of (sentence ws) ≡ ws
    of_words [] some all = absurd (some refl)
    of_words (w ∷ ws) some all = let both = and_parts (is_whole w) (list_all is_whole ws) all in words_sentence w ws both.0 both.1

    has_words : (op : Op) → op_words op ≢ []
    has_words (Put key value) = λ e. cc
    has_words (Get owner key) = λ e. cc
    has_words (Del key) = λ e. cc
    has_words (Cas key old new) = λ e. cc
    has_words (Grant key client) = λ e. cc
    has_words (Revoke key client) = λ e. cc
    has_words Count = λ e. cc
    has_words Keys = λ e. cc
