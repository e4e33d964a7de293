-- What the generator's steps give, by places of its stream.
use Rattle.std.proofs.Common.{◌≡◌, ℕ, zero, suc, ◌+◌, ◌*◌, ◌%◌, ◌^◌, ◌<◌, List, ◌++◌, length, take, refl, ap, ◌∙◌, arith, length-append, take_all}
use Rattle.std.specs.Int.{w32, to_le_bytes}
use Rattle.rand_core.specs.Steps.{word_bytes, fill_via_u32}
use Rattle.rand_chacha.specs.ChaCha.{ChaCha, word_at, next_word, key_of}
use Rattle.fw_seal.specs.Seal.{stream_bytes}

-- the generator of a key, at a place of a stream
abbrev pub at : List ℕ → ℕ → ℕ → ChaCha
at key stream place = record { key = key_of key; stream = stream; word_pos = place }

-- n steps from the start give the first n words, and go n places on
pub steps_are_words : (key : List ℕ) (stream n : ℕ) → n < 2 ^ 68 → word_bytes (to_le_bytes w32) (next_word 10) n (at key stream 0) ≡ (stream_bytes key stream n, at key stream n)
unfolding word_bytes stream_bytes
steps_are_words key stream zero small = refl
steps_are_words key stream (suc n) small =
    let moved : (n + 1) % 2 ^ 68 ≡ suc n = omega arith in
    ap (λ (p : List ℕ × ChaCha). (p.0 ++ to_le_bytes w32 (next_word 10 p.1).0, (next_word 10 p.1).1)) (steps_are_words key stream n (omega arith))
    ∙ ap (λ (q : ℕ). (stream_bytes key stream (suc n), at key stream q)) moved

pub length-stream_bytes : (key : List ℕ) (stream n : ℕ) → length (stream_bytes key stream n) ≡ 4 * n
unfolding stream_bytes
length-stream_bytes key stream zero = refl
length-stream_bytes key stream (suc n) =
    let last : length (to_le_bytes w32 (word_at 10 (key_of key) stream n)) ≡ 4 = refl in
    omega (arith, length-stream_bytes key stream n, last, length-append (stream_bytes key stream n) (to_le_bytes w32 (word_at 10 (key_of key) stream n)))

-- 512 bytes from the start are the first 128 words
pub filled_is_stream : (key : List ℕ) (stream : ℕ) → (fill_via_u32 (next_word 10) 512 (at key stream 0)).0 ≡ stream_bytes key stream 128
filled_is_stream key stream =
    ap (λ (p : List ℕ × ChaCha). take 512 p.0) (steps_are_words key stream 128 (omega arith))
    ∙ take_all 512 (stream_bytes key stream 128) (omega (arith, length-stream_bytes key stream 128))
