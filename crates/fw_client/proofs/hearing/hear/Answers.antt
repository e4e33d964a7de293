-- What a frame tells the client.
use Rattle.std.proofs.Common.{◌≡◌, Some, ap, sym, ◌∙◌}
use Rattle.std.specs.Prelude.{option_and_then}
use Rattle.std.proofs.lemmas.Result.{IfOk-weaker}
use Rattle.fw_base.specs.declared.seat.Seat.TheVariants as seats
use Rattle.fw_frame.specs.Plain.{plain}
use Rattle.fw_frame.specs.View.{viewed}
use Rattle.fw_trace.specs.Client as clients
use Rattle.fw_means.specs.Means.{admitted_by}
use Rattle.fw_rules.specs.Deployed.{bodies_of}
use Rattle.fw_rules.specs.Roles.{told_in}
use Rattle.fw_client.specs.Kept.{Speech, after}
use Rattle.fw_client.specs.Standing.{speech_of}
use Rattle.fw_client.proofs.Openable.{admitted-open}
use Rattle.fw_client.proofs.hearing.hear.Goals as goal

pub told-requires-clause-frame : goal.told-requires-clause-frame
told-requires-clause-frame g c =
    rw c.frame.ensures
    (admitted-open c.args.directory.now (seats.Client c.args.client) c.args.from c.args.bytes.now (viewed (plain c.in-Some.checked)) c.requires.sizes
    (rw c.in-Some.is at c.in_ok-checked.ensures))

pub returns-in-Some-2-clause-step : goal.returns-in-Some-2-clause-step
returns-in-Some-2-clause-step g c =
    let sp = speech_of c.args.client c.args.hand.now c.args.directory.now in
    let tells = told_in (bodies_of c.args.hand.now) c.args.client c.args.from in
    let found : Some (viewed (plain c.in-Some.checked)) ≡ admitted_by c.args.directory.now (seats.Client c.args.client) c.args.from c.args.bytes.now = rw c.in-Some.is at c.in_ok-checked.ensures in
    let says : c.in_ok-told.field-0 ≡ tells (viewed (plain c.in-Some.checked)) = rw c.frame.ensures at c.in_ok-told.ensures in
    let told : option_and_then tells (admitted_by c.args.directory.now (seats.Client c.args.client) c.args.from c.args.bytes.now) ≡ Some c.in-Some-2.told = ap (option_and_then tells) (sym found) ∙ sym says ∙ c.in-Some-2.is in
    let keeps = c.args.submissions.now.keeps in
    IfOk-weaker c.hear.result (λ asks. (q : Speech) → clients.hear q keeps (Some c.in-Some-2.told) ≡ after asks q c.hear.new.self.keeps)
    (λ asks. clients.hear sp keeps (option_and_then tells (admitted_by c.args.directory.now (seats.Client c.args.client) c.args.from c.args.bytes.now)) ≡ after asks sp c.hear.new.self.keeps)
    (λ asks step. ap (λ t. clients.hear sp keeps t) told ∙ step sp) c.hear.ensures.step
