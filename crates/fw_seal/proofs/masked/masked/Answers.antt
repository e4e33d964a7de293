use Rattle.std.proofs.Common.{◌≡◌, ◌∙◌, ap, ℕ}
use Rattle.fw_seal.specs.Seal.{masked, stream_of, stream_bytes, xor_bytes}
use Rattle.fw_seal.proofs.masked.masked.Goals as goal

pub returns : goal.returns
unfolding masked
returns c =
    let mask : c.stream_bytes.result ≡ stream_bytes c.args.key.now.stream_key (stream_of c.args.way c.args.number) 128 =
    c.stream_bytes.ensures ∙ ap (λ (s : ℕ). stream_bytes c.args.key.now.stream_key s 128) c.stream_of.ensures in
    c.xor_bytes.ensures ∙ ap (xor_bytes c.args.block.now) mask
