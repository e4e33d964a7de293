-- The words of an operation are those of one operation only.
use Rattle.std.proofs.Common.{◌≡◌, ℕ, ◌<◌, ◌^◌, true, nat_eq, nat_lt, List, [], ◌∷◌, get_or, drop, Option, Some, None, refl, sym, ap, ◌∙◌, arith, if◌then◌else◌}
use Rattle.std.proofs.lemmas.Bool.{and_parts, ltb-true}
use Rattle.std.proofs.lemmas.Fmt.{decimal_is_IsNumeral}
use Rattle.std.specs.Str.Parse.{digits_value}
use Rattle.fw_op.specs.declared.op.Op.{Op}
use Rattle.fw_op.specs.declared.op.Op.TheVariants.{Put, Get, Del, Cas, Grant, Revoke, Count, Keys}
use Rattle.fw_op.specs.Keys.{is_key}
use Rattle.fw_op.specs.Words.{client_word}
use Rattle.fw_op.specs.Ops.{op_words, op_fits}

-- the client that a word names
abbrev pub named : List ℕ → ℕ
named word = digits_value 10 (drop 1 word)

pub named_client : (c clients : ℕ) → clients < 2 ^ 32 → nat_lt c clients ≡ true → named (client_word c) ≡ c
named_client c clients small h = (decimal_is_IsNumeral c (omega (arith, ltb-true c clients h))).1

-- by the second letter of the first word, and then by the first
three : List ℕ → List ℕ → List ℕ → Op
three w a b =
    if nat_eq (get_or w 1 0) 117 then Put a b
    else (if nat_eq (get_or w 1 0) 114 then Grant a (named b)
    else (if nat_eq (get_or w 0 0) 103 then Get (named a) b else Revoke a (named b)))

-- the operation of these words, where they are of one
op_back : List (List ℕ) → Option Op
op_back (w ∷ []) = Some (if nat_eq (get_or w 0 0) 99 then Count else Keys)
op_back (w ∷ a ∷ []) = Some (Del a)
op_back (w ∷ a ∷ b ∷ []) = Some (three w a b)
op_back (w ∷ a ∷ b ∷ c ∷ []) = Some (Cas a b c)
op_back _ = None

op_back-op_words : (clients : ℕ) (op : Op) → clients < 2 ^ 32 → op_fits clients op ≡ true → op_back (op_words op) ≡ Some op
unfolding op_back three
op_back-op_words clients (Put key value) small fits = refl
op_back-op_words clients (Get owner key) small fits = ap (λ n. Some (Get n key)) (named_client owner clients small (and_parts (nat_lt owner clients) (is_key key) fits).0)
op_back-op_words clients (Del key) small fits = refl
op_back-op_words clients (Cas key old new) small fits = refl
op_back-op_words clients (Grant key client) small fits = ap (λ n. Some (Grant key n)) (named_client client clients small (and_parts (is_key key) (nat_lt client clients) fits).1)
op_back-op_words clients (Revoke key client) small fits = ap (λ n. Some (Revoke key n)) (named_client client clients small (and_parts (is_key key) (nat_lt client clients) fits).1)
op_back-op_words clients Count small fits = refl
op_back-op_words clients Keys small fits = refl

pub same_op_words : (clients : ℕ) (a b : Op) → clients < 2 ^ 32 → op_fits clients a ≡ true → op_fits clients b ≡ true → op_words a ≡ op_words b → a ≡ b
same_op_words clients a b small fit_a fit_b e =
    let same : Some a ≡ Some b = sym (op_back-op_words clients a small fit_a) ∙ ap op_back e ∙ op_back-op_words clients b small fit_b in
    cc
