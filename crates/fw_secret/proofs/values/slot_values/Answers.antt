use Rattle.std.proofs.Common.{◌≡◌, ◌∙◌, ◌*◌, arith}
use Rattle.fw_base.specs.Places.{row_index}
use Rattle.fw_secret.specs.Dealt.{Origin}
use Rattle.fw_secret.proofs.Secrets.{secrets_are}
use Rattle.fw_secret.proofs.values.slot_values.Goals as goal

pub returns-in_default : goal.returns-in_default
returns-in_default c =
    let o : Origin = record { params = c.args.params.now; seed = c.args.seed.now } in
    let first : c.from.result ≡ row_index o.params c.args.slot c.args.point * 512 = omega (arith, c.from.ensures, c.place_index.ensures.value) in
    c.fill.ensures 4096 (omega arith) ∙ secrets_are o c.args.slot c.args.point c.from.result c.in_default.not-Reply first
