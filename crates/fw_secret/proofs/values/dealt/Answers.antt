use Rattle.std.proofs.Common.{◌∙◌, ap, sym}
use Rattle.fw_base.specs.declared.slot.Place.{Place}
use Rattle.fw_secret.specs.Dealt.{Origin, dealt}
use Rattle.fw_secret.specs.Streams.{chunk}
use Rattle.fw_secret.proofs.Secrets.{secret_is, reply_at, side_of_place}
use Rattle.fw_secret.proofs.values.dealt.Goals as goal

pub returns-in-Reply : goal.returns-in-Reply
returns-in-Reply c =
    let o : Origin = record { params = c.args.params.now; seed = c.args.seed.now } in
    let place : Place = c.args.place.now in
    c.reply_value.ensures ∙ sym (reply_at o place c.in-Reply.number c.in-Reply.is (side_of_place o.params place c.requires.fits))

pub returns-in_default : goal.returns-in_default
unfolding dealt
returns-in_default c =
    let o : Origin = record { params = c.args.params.now; seed = c.args.seed.now } in
    let place : Place = c.args.place.now in
    c.chunk.ensures
    ∙ ap (chunk o.seed 1) (c.from.ensures ∙ c.place_index.ensures.value)
    ∙ sym (secret_is o place.slot place.bit place.side place.point c.in_default.not-Reply)
