-- Pieces of a stream, in chunks of 32 bytes.
use Rattle.std.proofs.Common.{◌≡◌, ℕ, zero, suc, ◌+◌, ◌*◌, ◌<◌, List, ◌++◌, length, refl, sym, ap, ◌∙◌, arith}
use Rattle.std.specs.List.{flat_map}
use Rattle.fw_list.specs.Lists.{numbers_from}
use Rattle.fw_text.specs.Bits.{value_at}
use Rattle.fw_secret.specs.Streams.{words_from, chunk}
use Rattle.fw_secret.proofs.Parts.{part_at, one_part_more}
use Rattle.fw_secret.proofs.Words.{length-words_from, words_behind}

-- the chunk k places behind the first
abbrev pub chunk_behind : List ℕ → ℕ → ℕ → ℕ → List ℕ
chunk_behind seed stream first k = chunk seed stream (first + k)

pub length-chunk : (seed : List ℕ) (stream k : ℕ) → length (chunk seed stream k) ≡ 32
length-chunk seed stream k = length-words_from seed stream (8 * k) 8

-- n chunks in order are one piece
pub chunks_are_words : (seed : List ℕ) (stream first n : ℕ) → flat_map (chunk_behind seed stream first) (numbers_from 0 n) ≡ words_from seed stream (8 * first) (8 * n)
unfolding words_from
chunks_are_words seed stream first zero = refl
chunks_are_words seed stream first (suc n) =
    let place : 8 * (first + n) ≡ 8 * first + 8 * n = omega arith in
    let all : 8 * n + 8 ≡ 8 * suc n = omega arith in
    one_part_more (chunk_behind seed stream first) n
    ∙ ap (λ (xs : List ℕ). xs ++ chunk seed stream (first + n)) (chunks_are_words seed stream first n)
    ∙ ap (λ (q : ℕ). words_from seed stream (8 * first) (8 * n) ++ words_from seed stream q 8) place
    ∙ sym (words_behind seed stream (8 * first) (8 * n) 8)
    ∙ ap (words_from seed stream (8 * first)) all

-- a chunk of a piece
pub chunk_at : (seed : List ℕ) (stream first n k : ℕ) → k < n → value_at (words_from seed stream (8 * first) (8 * n)) k ≡ chunk seed stream (first + k)
chunk_at seed stream first n k below =
    let same : 0 + k ≡ k = omega arith in
    ap (λ (xs : List ℕ). value_at xs k) (sym (chunks_are_words seed stream first n))
    ∙ part_at (chunk_behind seed stream first) 0 n k (λ j. length-chunk seed stream (first + j)) below
    ∙ ap (chunk_behind seed stream first) same
