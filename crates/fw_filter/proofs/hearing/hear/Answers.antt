-- A frame that is admitted.
use Rattle.std.proofs.Common.{◌∙◌, ap, sym, subst}
use Rattle.std.proofs.lemmas.Result.{on_ok_weaker}
use Rattle.fw_base.specs.declared.seat.Seat.TheVariants as seats
use Rattle.fw_frame.specs.Plain.{plain}
use Rattle.fw_frame.specs.View.{viewed}
use Rattle.fw_means.specs.Means.{admitted_by}
use Rattle.fw_share.specs.Shares.{IsSeen}
use Rattle.fw_filter.specs.Sifting.{SpeaksIn, Does}
use Rattle.fw_filter.specs.Standing.{speech_of}
use Rattle.fw_filter.proofs.Heard.{admitted-seen, heard-so, speaks-in}
use Rattle.fw_filter.proofs.hearing.hear.Goals as goal

pub hear_frame-requires : goal.hear_frame-requires
hear_frame-requires g c =
    let found = rw c.in-Some.is at c.in_ok-frame.ensures in
    subst (λ p. IsSeen p (viewed (plain c.in-Some.frame))) c.requires (admitted-seen c.args.directory.now _ c.args.from c.args.bytes.now (viewed (plain c.in-Some.frame)) (sym found))

pub returns-in-Some-clause-step : goal.returns-in-Some-clause-step
returns-in-Some-clause-step g c =
    let d = c.args.directory.now in
    let r = c.args.sieve.now.row in
    let v = viewed (plain c.in-Some.frame) in
    let found = (rw c.in-Some.is at c.in_ok-frame.ensures) ∙ ap (λ n. admitted_by d (seats.Filter n c.args.column) c.args.from c.args.bytes.now) c.row.ensures in
    on_ok_weaker c.hear_frame.result
    (λ step hand ready.
    let sp = speech_of r c.args.column hand d in
    subst (Does c.hear_frame.new.sieve.keeps c.args.out.now c.hear_frame.new.out) (heard-so c.args.sieve.now.params d hand r c.args.column c.args.sieve.now.keeps c.args.from c.args.bytes.now v c.requires found)
    (step sp (subst (λ p. SpeaksIn p r sp) c.requires (speaks-in d hand r c.args.column)) ready))
    c.hear_frame.ensures.step
