-- The words of a reply are those of one reply only.
use Rattle.std.proofs.Common.{◌≡◌, ℕ, ◌<◌, ◌^◌, true, false, not, nat_eq, nat_lt, nat_le, List, [], ◌∷◌, ◌++◌, length, map, get_or, Option, Some, None, refl, sym, ap, ap₂, ◌∙◌, arith, if◌then◌else◌}
use Rattle.std.proofs.lemmas.Bool.{and_parts, ltb-true, not-true}
use Rattle.std.proofs.lemmas.Fmt.{decimal_is_IsNumeral}
use Rattle.std.specs.List.{list_all}
use Rattle.std.specs.Str.Parse.{digits_value}
use Rattle.fw_op.specs.declared.reply.Name.{Name}
use Rattle.fw_op.specs.declared.reply.Reply.{Reply}
use Rattle.fw_op.specs.declared.reply.Reply.TheVariants.{Done, Value, Absent, Differs, Count, Keys, Bad, Old, Null}
use Rattle.fw_op.specs.Keys.{is_key}
use Rattle.fw_op.specs.Words.{client_word}
use Rattle.fw_op.specs.Replies.{name_word, name_fits, reply_words, reply_fits}
use Rattle.fw_op.proofs.Sentences.{is_unslashed, unslashed_client}
use Rattle.fw_op.proofs.OneOp.{named, named_client}

-- what stands before the first slash, and after it
before : List ℕ → List ℕ
before [] = []
before (b ∷ bs) = if nat_eq b 47 then [] else b ∷ before bs

after : List ℕ → List ℕ
after [] = []
after (b ∷ bs) = if nat_eq b 47 then bs else after bs

before-slash : (xs ys : List ℕ) → is_unslashed xs ≡ true → before (xs ++ 47 ∷ ys) ≡ xs
unfolding before
before-slash [] ys plain = refl
before-slash (x ∷ xs) ys plain =
    let both = and_parts (not (nat_eq x 47)) (is_unslashed xs) plain in
    let other : nat_eq x 47 ≡ false = not-true (nat_eq x 47) both.0 in
    rw other (ap (λ rest. x ∷ rest) (before-slash xs ys both.1))

after-slash : (xs ys : List ℕ) → is_unslashed xs ≡ true → after (xs ++ 47 ∷ ys) ≡ ys
unfolding after
after-slash [] ys plain = refl
after-slash (x ∷ xs) ys plain =
    let both = and_parts (not (nat_eq x 47)) (is_unslashed xs) plain in
    let other : nat_eq x 47 ≡ false = not-true (nat_eq x 47) both.0 in
    rw other (after-slash xs ys both.1)

name_back : List ℕ → Name
name_back word = record { owner = named (before word); key = after word }

name_back-name_word : (clients : ℕ) (name : Name) → clients < 2 ^ 32 → name_fits clients name ≡ true → name_back (name_word name) ≡ name
unfolding name_back
name_back-name_word clients name small fits =
    let owner = (and_parts (nat_lt name.owner clients) (is_key name.key) fits).0 in
    let plain : is_unslashed (client_word name.owner) ≡ true = unslashed_client name.owner (omega (arith, ltb-true name.owner clients owner)) in
    let number : named (before (name_word name)) ≡ name.owner = ap named (before-slash (client_word name.owner) name.key plain) ∙ named_client name.owner clients small owner in
    let key : after (name_word name) ≡ name.key = after-slash (client_word name.owner) name.key plain in
    rw (number, key) refl

names_back : (clients : ℕ) (names : List Name) → clients < 2 ^ 32 → list_all (name_fits clients) names ≡ true → map name_back (map name_word names) ≡ names
names_back clients [] small fits = refl
names_back clients (name ∷ names) small fits =
    let both = and_parts (name_fits clients name) (list_all (name_fits clients) names) fits in
    ap₂ (λ (n : Name) (ns : List Name). n ∷ ns) (name_back-name_word clients name small both.0) (names_back clients names small both.1)

-- the reply of one word, by its first letter, and then by the second
one : List ℕ → Reply
one w =
    if nat_eq (get_or w 0 0) 100 then Done
    else (if nat_eq (get_or w 0 0) 98 then Bad
    else (if nat_eq (get_or w 0 0) 111 then Old
    else (if nat_eq (get_or w 1 0) 117 then Null else Absent)))

-- the reply of a word and those after it
reply_back : List (List ℕ) → Option Reply
reply_back [] = None
reply_back (w ∷ ws) =
    if nat_eq (get_or w 0 0) 107 then Some (Keys (map name_back ws))
    else (if nat_eq (get_or w 0 0) 118 then Some (Value (get_or ws 0 []))
    else (if nat_eq (get_or w 0 0) 99 then Some (Count (digits_value 10 (get_or ws 0 [])))
    else (if nat_eq (get_or w 1 0) 105 then Some Differs else Some (one w))))

reply_back-reply_words : (clients : ℕ) (reply : Reply) → clients < 2 ^ 32 → reply_fits clients reply ≡ true → reply_back (reply_words reply) ≡ Some reply
unfolding reply_back one
reply_back-reply_words clients Done small fits = refl
reply_back-reply_words clients (Value value) small fits = refl
reply_back-reply_words clients Absent small fits = refl
reply_back-reply_words clients Differs small fits = refl
reply_back-reply_words clients (Count count) small fits = ap (λ n. Some (Count n)) (decimal_is_IsNumeral count (omega (arith, ltb-true count (2 ^ 32) fits))).1
reply_back-reply_words clients (Keys names) small fits = ap (λ ns. Some (Keys ns)) (names_back clients names small (and_parts (nat_le (length names) 24) (list_all (name_fits clients) names) fits).1)
reply_back-reply_words clients Bad small fits = refl
reply_back-reply_words clients Old small fits = refl
reply_back-reply_words clients Null small fits = refl

pub same_reply_words : (clients : ℕ) (a b : Reply) → clients < 2 ^ 32 → reply_fits clients a ≡ true → reply_fits clients b ≡ true → reply_words a ≡ reply_words b → a ≡ b
same_reply_words clients a b small fit_a fit_b e =
    let same : Some a ≡ Some b = sym (reply_back-reply_words clients a small fit_a) ∙ ap reply_back e ∙ reply_back-reply_words clients b small fit_b in
    cc
