use Rattle.std.proofs.Common.{◌≡◌, ap, ◌∙◌, List, ℕ, ◌*◌, ◌%◌, ◌^◌, length}
use Rattle.rand_core.specs.Steps.{stream_of, fill_via_u32}
use Rattle.rand_core.specs.Stream.{fill_bytes, Stream}
use Rattle.rand_chacha.specs.ChaCha.{ChaCha, next_word}
use Rattle.fw_secret.proofs.Words.{at, filled_is_words}
use Rattle.fw_secret.proofs.streams.fill.Goals as goal

pub returns : goal.returns
unfolding fill_bytes stream_of
returns c = λ n long.
    let seed : List ℕ = c.args.seed.now in
    let len : ℕ = length c.args.out.now in
    let placed : c.set_word_pos.new.self ≡ at seed c.args.stream (8 * c.args.first % 2 ^ 68) =
    c.set_word_pos.ensures
    ∙ ap (λ (g : ChaCha). record g { word_pos = 8 * c.from.result % 2 ^ 68 }) (c.set_stream.ensures ∙ ap (λ (g : ChaCha). record g { stream = c.args.stream }) c.from_seed-rng.ensures)
    ∙ ap (λ (first : ℕ). at seed c.args.stream (8 * first % 2 ^ 68)) c.from.ensures in
    let filled : c.fill_bytes.new.dst ≡ (fill_via_u32 (next_word 10) len c.set_word_pos.new.self).0 = ap (λ (p : List ℕ × Stream). p.0) c.fill_bytes.ensures in
    filled ∙ ap (λ (g : ChaCha). (fill_via_u32 (next_word 10) len g).0) placed ∙ filled_is_words seed c.args.stream c.args.first n len c.requires.first c.requires.short long
