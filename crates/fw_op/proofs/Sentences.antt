-- A text and its words.
use Rattle.std.proofs.Common.{◌≡◌, ◌≢◌, ℕ, ◌<◌, ◌^◌, Bool, true, false, not, Bor, MatchOption, IfOk, OnErr, IfSome, IfNone, Result, Ok, Err, inl, inr, List, [], ◌∷◌, ◌++◌, length, get_or, Option, Some, None, refl, sym, ap, ◌∙◌, arith, rules, decimal, nat_eq, nat_lt}
use Rattle.std.proofs.lemmas.Bool.{ne_eqb, cases_Bool, eqb-true, ltb-true, and_parts, and_from, not-true, not_from_false, true≢false}
use Rattle.std.proofs.lemmas.Fmt.{digits_decimal}
use Rattle.std.proofs.lemmas.List.{append-nil}
use Rattle.std.proofs.lemmas.List.Elements.{All-from_get_or}
use Rattle.std.proofs.lemmas.List.Sums.{AllPass-from_list_all}
use Rattle.std.proofs.lemmas.List.Splits.{slice_split_first, slice_split_none, slice_split_at, join_with_byte-slice_split}
use Rattle.std.proofs.lemmas.Str.Parse.{IsNumeralModel, numerals_by_value}
use Rattle.std.proofs.lemmas.Str.Pattern.{IsSplitOnceResult, split_once_first, split_parts}
use Rattle.std.specs.Char.{is_ascii_digit}
use Rattle.std.specs.List.{All, list_all}
use Rattle.std.specs.Str.Parse.{digits_value}
use Rattle.fw_list.specs.Numbers.{within}
use Rattle.fw_op.specs.Keys.{is_key_byte, is_key, is_value_byte, is_value}
use Rattle.fw_op.specs.Words.{sentence, following, client_word, is_blank, words_of}

-- no byte is the blank
abbrev pub HasNoBlank : List ℕ → Type 0
HasNoBlank bs = (i : ℕ) → i < length bs → get_or bs i 0 ≢ 32

all_pass : (bs : List ℕ) → HasNoBlank bs → All (λ b. is_blank b ≡ false) bs
all_pass bs h = All-from_get_or (λ b. is_blank b ≡ false) bs 0 (λ i inside. ne_eqb (get_or bs i 0) 32 (h i inside))

-- the first word and what is left, as `split_once` gives them
pub cut : (bs : List ℕ) (r : Option (Bor (List ℕ) × Bor (List ℕ))) → IsSplitOnceResult 32 bs r → MatchOption r (words_of bs ≡ bs ∷ []) (λ x. words_of bs ≡ x.0.now ∷ words_of x.1.now)
cut bs None h = slice_split_none is_blank bs (all_pass bs (split_parts 32 bs None h (omega arith)))
cut bs (Some x) h =
    let first = split_once_first 32 bs (Some x) h (omega arith) in
    rw (first.1, first.2) (slice_split_first is_blank bs 0 first.0)

-- whether a word has no blank
abbrev pub is_whole : List ℕ → Bool
is_whole word = list_all (λ b. not (is_blank b)) word

unblank : (b : ℕ) → not (is_blank b) ≡ true → is_blank b ≡ false
unblank b h = not-true (is_blank b) h

whole_passes : (word : List ℕ) → is_whole word ≡ true → All (λ b. is_blank b ≡ false) word
whole_passes word h = λ k d inside. unblank (get_or word k d) (AllPass-from_list_all (λ b. not (is_blank b)) word h k d inside)

-- the words of a text, joined, are the text
pub sentence_words : (text : List ℕ) → sentence (words_of text) ≡ text
sentence_words text = join_with_byte-slice_split 32 text

-- the words of joined words are the words
pub words_sentence : (word : List ℕ) (words : List (List ℕ)) → is_whole word ≡ true → list_all is_whole words ≡ true → words_of (sentence (word ∷ words)) ≡ word ∷ words
words_sentence word [] one more = slice_split_none is_blank word (whole_passes word one)
words_sentence word (next ∷ words) one more =
    let both = and_parts (is_whole next) (list_all is_whole words) more in
    slice_split_at is_blank word 32 (sentence (next ∷ words)) (whole_passes word one) refl ∙ ap (λ rest. word ∷ rest) (words_sentence next words both.0 both.1)

-- a sentence is its first word and what follows it
pub sentence-cons : (word : List ℕ) (words : List (List ℕ)) → sentence (word ∷ words) ≡ word ++ following words
sentence-cons word [] = sym (append-nil word)
sentence-cons word (next ∷ words) = ap (λ rest. word ++ 32 ∷ rest) (sentence-cons next words)

-- a byte isn't among bytes of a kind that it isn't of
not_the_byte : (x : ℕ) (p : ℕ → Bool) → p x ≡ false → (b : ℕ) → p b ≡ true → not (nat_eq b x) ≡ true
not_the_byte x p h b at = elim (cases_Bool (nat_eq b x)) [
  | inl same ↦ let is : b ≡ x = eqb-true b x same in let e : p b ≡ p x = ap p is in absurd (true≢false (sym at ∙ e ∙ h))
  | inr other ↦ not_from_false (nat_eq b x) other
]

pub without : (x : ℕ) (p : ℕ → Bool) → p x ≡ false → (word : List ℕ) → list_all p word ≡ true → list_all (λ b. not (nat_eq b x)) word ≡ true
without x p h [] all = refl
without x p h (b ∷ word) all =
    let both = and_parts (p b) (list_all p word) all in
    and_from (not (nat_eq b x)) (list_all (λ b. not (nat_eq b x)) word) (not_the_byte x p h b both.0) (without x p h word both.1)

digits : IsNumeralModel (λ ds. list_all is_ascii_digit ds ≡ true) (digits_value 10)
digits = numerals_by_value (λ ds. list_all is_ascii_digit ds ≡ true) (search rules)

pub digits_of_decimal : (n : ℕ) → n < 2 ^ 64 → list_all is_ascii_digit (decimal n) ≡ true
digits_of_decimal n small = digits_decimal digits n small

pub whole_decimal : (n : ℕ) → n < 2 ^ 64 → is_whole (decimal n) ≡ true
whole_decimal n small = without 32 is_ascii_digit refl (decimal n) (digits_of_decimal n small)

pub whole_key : (key : List ℕ) → is_key key ≡ true → is_whole key ≡ true
whole_key key h = without 32 is_key_byte refl key (and_parts (within 1 (length key) 16) (list_all is_key_byte key) h).1

pub whole_value : (value : List ℕ) → is_value value ≡ true → is_whole value ≡ true
whole_value value h = without 32 is_value_byte refl value (and_parts (within 1 (length value) 480) (list_all is_value_byte value) h).1

pub whole_client : (c clients : ℕ) → clients < 2 ^ 32 → nat_lt c clients ≡ true → is_whole (client_word c) ≡ true
whole_client c clients small h = whole_decimal c (omega (arith, ltb-true c clients h))

-- what is known of a thing by its words is known by its text
pub found_by_words : {A E : Type 0} (spell : A → List (List ℕ)) (fits : A → Bool) (text : List ℕ) (r : Result (Option A) E)
    → IfOk r (λ found. IfSome found (λ a. (words_of text ≡ spell a) × (fits a ≡ true))) → IfOk r (λ found. IfSome found (λ a. (text ≡ sentence (spell a)) × (fits a ≡ true)))
found_by_words spell fits text (Ok (Some a)) h = (sym (sentence_words text) ∙ ap sentence h.0, h.1)
found_by_words spell fits text (Ok None) h = tt
found_by_words spell fits text (Err e) h = tt

pub none_by_words : {A E : Type 0} (spell : A → List (List ℕ)) (fits : A → Bool) (text : List ℕ) (r : Result (Option A) E)
    → ((a : A) → fits a ≡ true → words_of (sentence (spell a)) ≡ spell a)
    → IfOk r (λ found. IfNone found ((a : A) → fits a ≡ true → words_of text ≢ spell a)) → IfOk r (λ found. IfNone found ((a : A) → fits a ≡ true → text ≢ sentence (spell a)))
none_by_words spell fits text (Ok (Some a)) back h = tt
none_by_words spell fits text (Ok None) back h = λ a fit e. h a fit (ap words_of e ∙ back a fit)
none_by_words spell fits text (Err e) back h = tt

-- a thing that was wanted by its words is wanted by its text
pub memory_by_words : {A E : Type 0} (spell : A → List (List ℕ)) (fits more : A → Bool) (text : List ℕ) (r : Result (Option A) E)
    → OnErr r ((a : A) × (words_of text ≡ spell a) × (fits a ≡ true) × (more a ≡ true)) → OnErr r ((a : A) × ((text ≡ sentence (spell a)) × (fits a ≡ true)) × (more a ≡ true))
memory_by_words spell fits more text (Ok x) h = tt
memory_by_words spell fits more text (Err e) h = (h.0, (sym (sentence_words text) ∙ ap sentence h.1, h.2), h.3)

-- a thing of one spelling is the one that is read
pub each_by_words : {A E : Type 0} (spell : A → List (List ℕ)) (fits : A → Bool) (text : List ℕ) (r : Result (Option A) E)
    → ((a : A) → fits a ≡ true → words_of (sentence (spell a)) ≡ spell a)
    → ((a b : A) → fits a ≡ true → fits b ≡ true → spell a ≡ spell b → a ≡ b)
    → IfOk r (λ found. IfSome found (λ a. (words_of text ≡ spell a) × (fits a ≡ true)))
    → IfOk r (λ found. IfNone found ((a : A) → fits a ≡ true → words_of text ≢ spell a))
    → IfOk r (λ found. (a : A) → (text ≡ sentence (spell a)) × (fits a ≡ true) → found ≡ Some a)
each_by_words spell fits text (Ok (Some x)) back one found none = λ a is. ap Some (one x a found.1 is.1 (sym found.0 ∙ ap words_of is.0 ∙ back a is.1))
each_by_words spell fits text (Ok None) back one found none = λ a is. absurd (none a is.1 (ap words_of is.0 ∙ back a is.1))
each_by_words spell fits text (Err e) back one found none = tt

-- a word without a slash
abbrev pub is_unslashed : List ℕ → Bool
is_unslashed word = list_all (λ b. not (nat_eq b 47)) word

pub unslashed_client : (c : ℕ) → c < 2 ^ 64 → is_unslashed (client_word c) ≡ true
unslashed_client c small = without 47 is_ascii_digit refl (decimal c) (digits_of_decimal c small)

pub no_slash : (word : List ℕ) → is_unslashed word ≡ true → (i : ℕ) → i < length word → get_or word i 0 ≢ 47
no_slash word all i inside e = true≢false (sym (AllPass-from_list_all (λ b. not (nat_eq b 47)) word all i 0 inside) ∙ ap (λ b. not (nat_eq b 47)) e)
