-- What a frame means to the executor.
use Rattle.std.proofs.Common.{◌≡◌, Some, ap, sym, subst}
use Rattle.std.specs.Prelude.{option_and_then}
use Rattle.fw_base.specs.declared.seat.Seat.TheVariants as seats
use Rattle.fw_frame.specs.Plain.{plain}
use Rattle.fw_frame.specs.View.{viewed}
use Rattle.fw_means.specs.Means.{admitted_by}
use Rattle.fw_rules.specs.Roles.{agreed_frame, want_frame}
use Rattle.fw_exec.specs.Kept.{IsKeepable}
use Rattle.fw_exec.specs.Executors.{speech_by}
use Rattle.fw_exec.proofs.Admitted.{admitted_keepable}
use Rattle.fw_exec.proofs.After.{heard_sends}
use Rattle.fw_exec.proofs.hearing.take_bytes.Goals as goal

pub take_frame-requires-clause-frame : goal.take_frame-requires-clause-frame
take_frame-requires-clause-frame g c =
    let d = c.args.directory.now in
    let found : Some (viewed (plain c.in-Some.checked)) ≡ admitted_by d (seats.Exec c.args.own.now.exec) c.args.from c.args.bytes.now = rw c.in-Some.is at c.in_ok-checked.ensures in
    let keepable = admitted_keepable d (seats.Exec c.args.own.now.exec) c.args.from c.args.bytes.now (viewed (plain c.in-Some.checked)) (sym found) in
    rw c.frame.ensures (subst (λ p. IsKeepable p (viewed (plain c.in-Some.checked))) c.requires.sizes keepable)

pub returns-clause-sent : goal.returns-clause-sent
returns-clause-sent g c =
    let d = c.args.directory.now in
    let own = c.args.own.now in
    let sp = speech_by own d in
    let from = c.args.from in
    let bytes = c.args.bytes.now in
    let v = viewed (plain c.frame.result.now) in
    let found : Some v ≡ admitted_by d (seats.Exec own.exec) from bytes = rw c.frame.ensures (rw c.in-Some.is at c.in_ok-checked.ensures) in
    let agrees : agreed_frame from v ≡ sp.agreed from bytes = ap (option_and_then (agreed_frame from)) found in
    let wants : want_frame from v ≡ sp.wanted from bytes = ap (option_and_then (want_frame from)) found in
    heard_sends c.take_frame.result sp c.args.running.now c.args.out.now c.take_frame.new.out from bytes (agreed_frame from v) (want_frame from v) agrees wants c.take_frame.ensures.sent
