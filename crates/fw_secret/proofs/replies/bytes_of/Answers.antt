use Rattle.std.proofs.Common.{◌≡◌, ℕ, ◌+◌, ◌*◌, ◌<◌, List, ap, ◌∙◌, sym, arith}
use Rattle.std.specs.Prelude.{slice_index}
use Rattle.std.proofs.lemmas.List.{get_or-take, get_or-drop}
use Rattle.fw_text.specs.Bits.{value_at}
use Rattle.fw_secret.proofs.replies.bytes_of.Goals as goal

byte_of : (piece : List ℕ) (k j place : ℕ) → j < 32 → 32 * k + j ≡ place → slice_index piece place ≡ slice_index (value_at piece k) j
byte_of piece k j place below is =
    ap (λ (n : ℕ). slice_index piece n) (sym is) ∙ sym (get_or-take 32 _ j 0 below ∙ get_or-drop (32 * k) piece j 0)

pub returns : goal.returns
returns c =
    let piece : List ℕ = c.args.piece.now in
    let j : ℕ = c.args.j in
    let first = byte_of piece 0 j j c.requires (omega arith) in
    let second = byte_of piece 1 j (32 + j) c.requires (omega arith) in
    let third = byte_of piece 2 j (64 + j) c.requires (omega arith) in
    let fourth = byte_of piece 3 j (96 + j) c.requires (omega arith) in
    cc
