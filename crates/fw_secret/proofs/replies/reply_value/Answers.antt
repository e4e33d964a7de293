use Rattle.std.proofs.Common.{◌≡◌, ◌≤◌, ℕ, List, ◌+◌, ◌-◌, ◌*◌, ◌/◌, ◌%◌, ap, ◌∙◌, arith, rules}
use Rattle.fw_secret.specs.Dealt.{Origin}
use Rattle.fw_secret.specs.Pieces.{value_of}
use Rattle.fw_secret.specs.Streams.{words_from}
use Rattle.fw_secret.proofs.Secrets.{reply_is}
use Rattle.fw_secret.proofs.replies.reply_value.Goals as goal

pub returns : goal.returns
returns c =
    let o : Origin = record { params = c.args.params.now; seed = c.args.seed.now } in
    let k : ℕ = c.args.k in
    let first : ℕ = c.from.result * 4 in
    let few : o.params.g ≤ 3 = search rules in
    let is : first ≡ ((c.args.number - 1) * 512 + 2 * (k / 2) + k % 2) * 4 = omega (arith, c.from.ensures) in
    let filled : c.fill.new.out ≡ words_from o.seed 2 (8 * first) 32 = c.fill.ensures 32 (omega arith) in
    c.value_of.ensures
    ∙ ap (λ (piece : List ℕ). value_of piece (o.params.g + 1) c.args.point) filled
    ∙ reply_is o c.args.number (k / 2) (k % 2) c.args.point first is few
