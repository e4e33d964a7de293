use Rattle.std.proofs.Common.{◌≡◌, ap, ◌∙◌, List, ℕ}
use Rattle.rand_core.specs.Steps.{stream_of, fill_via_u32}
use Rattle.rand_core.specs.Stream.{fill_bytes, Stream}
use Rattle.rand_chacha.specs.ChaCha.{ChaCha, next_word}
use Rattle.fw_seal.proofs.Words.{at, filled_is_stream}
use Rattle.fw_seal.proofs.masked.stream_bytes.Goals as goal

pub returns : goal.returns
unfolding fill_bytes stream_of
returns c =
    let placed : c.set_word_pos.new.self ≡ at c.args.key c.args.stream 0 =
    c.set_word_pos.ensures
    ∙ ap (λ (g : ChaCha). record g { word_pos = 0 }) (c.set_stream.ensures ∙ ap (λ (g : ChaCha). record g { stream = c.args.stream }) c.from_seed-rng.ensures) in
    let filled : c.fill_bytes.new.dst ≡ (fill_via_u32 (next_word 10) 512 c.set_word_pos.new.self).0 = ap (λ (p : List ℕ × Stream). p.0) c.fill_bytes.ensures in
    filled ∙ ap (λ (g : ChaCha). (fill_via_u32 (next_word 10) 512 g).0) placed ∙ filled_is_stream c.args.key c.args.stream
