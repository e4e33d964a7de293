-- What the generator's steps give, by places of its stream.
use Rattle.std.proofs.Common.{◌≡◌, ℕ, zero, suc, ◌+◌, ◌*◌, ◌/◌, ◌%◌, ◌^◌, ◌<◌, List, ◌++◌, length, take, refl, sym, ap, ◌∙◌, arith, append_assoc, append-nil, length-append, take_all}
use Rattle.std.specs.Int.{w32, to_le_bytes}
use Rattle.rand_core.specs.Steps.{word_bytes, fill_via_u32}
use Rattle.rand_chacha.specs.ChaCha.{ChaCha, word_at, next_word, key_of}
use Rattle.fw_secret.specs.Streams.{words_from}

-- the generator of a seed, at a place of a stream
abbrev pub at : List ℕ → ℕ → ℕ → ChaCha
at seed stream place = record { key = key_of seed; stream = stream; word_pos = place }

-- n steps from a place give the words from there on, and go n places on
steps_are_words : (seed : List ℕ) (stream place n : ℕ) → place + n < 2 ^ 68 → word_bytes (to_le_bytes w32) (next_word 10) n (at seed stream place) ≡ (words_from seed stream place n, at seed stream (place + n))
unfolding word_bytes words_from
steps_are_words seed stream place zero small =
    let same : place ≡ place + 0 = omega arith in
    ap (λ (q : ℕ). (words_from seed stream place zero, at seed stream q)) same
steps_are_words seed stream place (suc n) small =
    let below : place + n < 2 ^ 68 = omega arith in
    let moved : (place + n + 1) % 2 ^ 68 ≡ place + suc n = omega arith in
    ap (λ (p : List ℕ × ChaCha). (p.0 ++ to_le_bytes w32 (next_word 10 p.1).0, (next_word 10 p.1).1)) (steps_are_words seed stream place n below)
    ∙ ap (λ (q : ℕ). (words_from seed stream place (suc n), at seed stream q)) moved

pub length-words_from : (seed : List ℕ) (stream place n : ℕ) → length (words_from seed stream place n) ≡ 4 * n
unfolding words_from
length-words_from seed stream place zero = refl
length-words_from seed stream place (suc n) =
    let last : length (to_le_bytes w32 (word_at 10 (key_of seed) stream (place + n))) ≡ 4 = refl in
    omega (arith, length-words_from seed stream place n, last, length-append (words_from seed stream place n) (to_le_bytes w32 (word_at 10 (key_of seed) stream (place + n))))

-- the bytes of n words from a chunk on
pub filled_is_words : (seed : List ℕ) (stream first n len : ℕ) → first < 2 ^ 60 → len < 2 ^ 60 → len ≡ 4 * n → (fill_via_u32 (next_word 10) len (at seed stream (8 * first % 2 ^ 68))).0 ≡ words_from seed stream (8 * first) n
filled_is_words seed stream first n len small short long =
    let place : 8 * first % 2 ^ 68 ≡ 8 * first = omega arith in
    let words : (len + 3) / 4 ≡ n = omega arith in
    let whole : length (words_from seed stream (8 * first) n) ≡ 4 * n = length-words_from seed stream (8 * first) n in
    ap (λ (q : ℕ). take len (word_bytes (to_le_bytes w32) (next_word 10) ((len + 3) / 4) (at seed stream q)).0) place
    ∙ ap (λ (m : ℕ). take len (word_bytes (to_le_bytes w32) (next_word 10) m (at seed stream (8 * first))).0) words
    ∙ ap (λ (p : List ℕ × ChaCha). take len p.0) (steps_are_words seed stream (8 * first) n (omega arith))
    ∙ take_all len (words_from seed stream (8 * first) n) (omega (arith, whole))

-- words behind words
pub words_behind : (seed : List ℕ) (stream place n m : ℕ) → words_from seed stream place (n + m) ≡ words_from seed stream place n ++ words_from seed stream (place + n) m
unfolding words_from
words_behind seed stream place n zero =
    let same : n + 0 ≡ n = omega arith in
    ap (words_from seed stream place) same ∙ sym (append-nil (words_from seed stream place n))
words_behind seed stream place n (suc m) =
    let next : n + suc m ≡ suc (n + m) = omega arith in
    let last : place + (n + m) ≡ place + n + m = omega arith in
    let word : List ℕ = to_le_bytes w32 (word_at 10 (key_of seed) stream (place + n + m)) in
    ap (words_from seed stream place) next
    ∙ ap (λ (q : ℕ). words_from seed stream place (n + m) ++ to_le_bytes w32 (word_at 10 (key_of seed) stream q)) last
    ∙ ap (λ (xs : List ℕ). xs ++ word) (words_behind seed stream place n m)
    ∙ append_assoc (words_from seed stream place n) (words_from seed stream (place + n) m) word
