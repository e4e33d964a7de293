-- The digits of raw bytes.
use Rattle.std.proofs.Common.{◌≡◌, ℕ, ◌*◌, ◌%◌, true, ◌&&◌, nat_eq, nat_le, List, [], ◌∷◌, length, Ok, refl, sym, ap, ◌∙◌, arith, codes}
use Rattle.std.proofs.lemmas.Bool.{and_parts, and_from, leb-true, le-leb, eqb-true, eq-eqb}
use Rattle.std.proofs.lemmas.List.Sums.{AllPass-from_list_all, list_all-from_AllPass}
use Rattle.std.specs.List.{list_all}
use Rattle.hex.specs.Hex.{decode_of, is_hex_digit}
use Rattle.fw_list.specs.Numbers.{within}
use Rattle.fw_base.specs.declared.params.Params.{Params}
use Rattle.fw_base.specs.declared.seat.Seat.{Seat}
use Rattle.fw_op.specs.Words.{sentence, words_of}
use Rattle.fw_op.proofs.Sentences.{sentence_words, words_sentence}
use Rattle.fw_list.specs.declared.limits.TheConstants.{LONGEST_FRAME}
use Rattle.fw_step.specs.declared.step.Lie.{Lie}
use Rattle.fw_step.specs.declared.step.Lie.TheVariants as lies
use Rattle.fw_step.specs.Parts.{are_frame_digits, AreBytesOf, IsLieOf}
use Rattle.hex.proofs.HexLemmas.{decode_of-ok, decode_of-digits}
use Rattle.fw_step.proofs.Whole.{whole_digits}
use Rattle.fw_step.proofs.FirstWords.{is_raw}

pub bytes_within : (text bytes : List ℕ) → are_frame_digits text ≡ true → decode_of text ≡ Ok bytes → within 1 (length bytes) LONGEST_FRAME ≡ true
bytes_within text bytes right decoded =
    let even = nat_eq (length text % 2) 0 in
    let some = nat_le 2 (length text) in
    let few = nat_le (length text) (2 * LONGEST_FRAME) in
    let three = and_parts (even && some && few) (list_all is_hex_digit text) right in
    let two = and_parts (even && some) few three.0 in
    let one = and_parts even some two.0 in
    let long = (decode_of-ok text bytes decoded).2 in
    let least = leb-true 2 (length text) one.1 in
    let most = leb-true (length text) (2 * LONGEST_FRAME) two.1 in
    and_from (nat_le 1 (length bytes)) (nat_le (length bytes) LONGEST_FRAME) (le-leb 1 (length bytes) (omega arith)) (le-leb (length bytes) LONGEST_FRAME (omega arith))

pub decoded_digits : (text : List ℕ) → are_frame_digits text ≡ true → (bytes : List ℕ) × AreBytesOf text bytes
decoded_digits text right =
    let even = nat_eq (length text % 2) 0 in
    let some = nat_le 2 (length text) in
    let few = nat_le (length text) (2 * LONGEST_FRAME) in
    let three = and_parts (even && some && few) (list_all is_hex_digit text) right in
    let two = and_parts (even && some) few three.0 in
    let one = and_parts even some two.0 in
    let bytes = decode_of-digits text (eqb-true (length text % 2) 0 one.0) (AllPass-from_list_all is_hex_digit text three.1) in
    (bytes.0, (bytes.1, bytes_within text bytes.0 right bytes.1))

pub right_digits : (text bytes : List ℕ) → AreBytesOf text bytes → are_frame_digits text ≡ true
right_digits text bytes are =
    let ok = decode_of-ok text bytes are.0 in
    let both = and_parts (nat_le 1 (length bytes)) (nat_le (length bytes) LONGEST_FRAME) are.1 in
    let least = leb-true 1 (length bytes) both.0 in
    let most = leb-true (length bytes) LONGEST_FRAME both.1 in
    let long = ok.2 in
    let even = nat_eq (length text % 2) 0 in
    let some = nat_le 2 (length text) in
    let few = nat_le (length text) (2 * LONGEST_FRAME) in
    and_from (even && some && few) (list_all is_hex_digit text)
    (and_from (even && some) few (and_from even some (eq-eqb (length text % 2) 0 ok.0) (le-leb 2 (length text) (omega arith))) (le-leb (length text) (2 * LONGEST_FRAME) (omega arith)))
    (list_all-from_AllPass is_hex_digit text ok.1)

pub raw_made : (text bytes : List ℕ) → AreBytesOf text bytes → (p : Params) (from : Seat) → IsLieOf p from (codes "raw" ∷ words_of text) (lies.Raw bytes)
raw_made text bytes are p from = ((text, are.0, ap (λ ws. codes "raw" ∷ ws) (words_sentence text [] (whole_digits text bytes are.0) refl)), are.1)

pub no_raw : (text : List ℕ) → ((bytes : List ℕ) → ¬ AreBytesOf text bytes) → (p : Params) (from : Seat) (lie : Lie) → ¬ IsLieOf p from (codes "raw" ∷ words_of text) lie
no_raw text none p from lie = λ is.
    let i = is_raw (words_of text) lie is.0 in
    let digits : i.1 ≡ text = sym (sym (sentence_words text) ∙ ap sentence i.4) in
    none i.0 (rw digits at i.3, rw i.2 at is.1)
