-- Streams of ChaCha20 (RFC 8439) under a seed, in chunks of eight words.
use Rattle.std.specs.Prelude.{ℕ, zero, suc, ◌+◌, ◌*◌, List, [], ◌++◌}
use Rattle.std.specs.Int.{w32, to_le_bytes}
use Rattle.rand_chacha.specs.ChaCha.{word_at, key_of}

-- n words of a stream from a place on, each low byte first
unfoldable pub words_from : List ℕ → ℕ → ℕ → ℕ → List ℕ
words_from seed stream place zero = []
words_from seed stream place (suc n) =
    words_from seed stream place n ++ to_le_bytes w32 (word_at 10 (key_of seed) stream (place + n))

-- chunk k of a stream: the words at places 8k to 8k + 7
abbrev pub chunk : List ℕ → ℕ → ℕ → List ℕ
chunk seed stream k = words_from seed stream (8 * k) 8
