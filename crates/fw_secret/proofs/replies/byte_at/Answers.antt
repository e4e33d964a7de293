use Rattle.std.proofs.Common.{◌≡◌, ℕ, List, take, ap, ◌∙◌}
use Rattle.std.specs.Prelude.{slice_index}
use Rattle.fw_text.specs.Bits.{value_at}
use Rattle.fw_shamir.specs.Polynomial.{eval}
use Rattle.fw_secret.specs.Pieces.{bytes_of}
use Rattle.fw_secret.proofs.Ranges.{front_of}
use Rattle.fw_secret.proofs.replies.byte_at.Goals as goal

pub returns : goal.returns
returns c =
    let piece : List ℕ = c.args.piece.now in
    let front : take c.args.count c.bytes_of.result ≡ bytes_of piece c.args.count c.args.j =
    ap (take c.args.count) c.bytes_of.ensures ∙ front_of (λ k. slice_index (value_at piece k) c.args.j) 4 c.args.count c.requires.count in
    c.eval.ensures ∙ ap (λ (cs : List ℕ). eval cs c.args.point) front
