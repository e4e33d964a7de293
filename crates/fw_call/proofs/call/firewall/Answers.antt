-- What is left to show of `firewall`.
use Rattle.std.proofs.Common.{◌≡◌, inl, inr, Err, IfSome, refl, sym, ◌∙◌, subst}
use Rattle.fw_command.specs.declared.command.Command.{Command}
use Rattle.fw_command.specs.declared.command.Command.TheVariants.{Replay, Deal}
use Rattle.fw_sched.specs.declared.fault.InputFault.{InputFault}
use Rattle.fw_call.specs.declared.answer.NoOutput.{NoOutput}
use Rattle.fw_call.specs.declared.status.Status.{Status}
use Rattle.fw_call.specs.declared.status.Status.TheVariants as status
use Rattle.fw_call.specs.Lines.{later_line, limit_line}
use Rattle.fw_call.specs.Answer.{AcceptsOnlyAnswers, LetsDownOnlyCertificates, IsRight, Outputs}
use Rattle.fw_call.specs.Reasons.{IsRightOr}
use Rattle.fw_call.proofs.Known.{told_back}
use Rattle.fw_call.proofs.Written.{holds_of, is_status, same_command, same_fault, same_limit}
use Rattle.fw_call.proofs.call.firewall.Goals as goal

pub returns-in-Ok-clause-replayed : goal.returns-in-Ok-clause-replayed
returns-in-Ok-clause-replayed g c = λ ok replay.
    let same = same_command c.in-Some.command Replay (c.in-Some.ensures.each Replay replay) in
    (c.in-Ok.text, subst (λ (d : Command). Outputs d (g.S.Source.left c.args.source.now) c.in-Ok.text) same c.in-Ok.ensures.ok, rw c.items.ensures at (c.written-in-Ok.ensures.all ok))

pub returns-in-Ok-clause-accepted : goal.returns-in-Ok-clause-accepted
returns-in-Ok-clause-accepted g c = λ ok replay.
    let same = same_command c.in-Some.command Replay (c.in-Some.ensures.each Replay replay) in
    let outputs = subst (λ (d : Command). Outputs d (g.S.Source.left c.args.source.now) c.in-Ok.text) same c.in-Ok.ensures.ok in
    let report = outputs.1.holds in
    told_back AcceptsOnlyAnswers (g.S.Source.left c.args.source.now) outputs.0 outputs.2 (outputs.1.plan, report.directory, report.trace, outputs.1.document, report.run, report.accepted)

pub returns-in-Ok-clause-certificates : goal.returns-in-Ok-clause-certificates
returns-in-Ok-clause-certificates g c = λ ok replay.
    let same = same_command c.in-Some.command Replay (c.in-Some.ensures.each Replay replay) in
    let outputs = subst (λ (d : Command). Outputs d (g.S.Source.left c.args.source.now) c.in-Ok.text) same c.in-Ok.ensures.ok in
    let report = outputs.1.holds in
    told_back LetsDownOnlyCertificates (g.S.Source.left c.args.source.now) outputs.0 outputs.2 (outputs.1.plan, report.directory, report.trace, outputs.1.document, report.run, report.certificates)

pub returns-in-Ok-clause-dealt : goal.returns-in-Ok-clause-dealt
returns-in-Ok-clause-dealt g c = λ ok seat asked.
    let same = same_command c.in-Some.command (Deal seat) (c.in-Some.ensures.each (Deal seat) asked) in
    (c.in-Ok.text, subst (λ (d : Command). Outputs d (g.S.Source.left c.args.source.now) c.in-Ok.text) same c.in-Ok.ensures.ok, rw c.items.ensures at (c.written-in-Ok.ensures.all ok))

pub returns-in-Ok-clause-right : goal.returns-in-Ok-clause-right
returns-in-Ok-clause-right g c = λ command asked which.
    let same = same_command c.in-Some.command command (c.in-Some.ensures.each command asked) in
    holds_of (λ (r : Status). IfSome (g.S.Source.left c.args.source.now) (λ bytes. IsRight command bytes r)) c.written-in-Ok.result status.Ok c.written-in-Ok.ensures.which
    (subst (λ (d : Command). IfSome (g.S.Source.left c.args.source.now) (λ bytes. IsRight d bytes status.Ok)) same c.in-Ok.ensures.right) which

pub returns-in-Ok-clause-complete : goal.returns-in-Ok-clause-complete
returns-in-Ok-clause-complete g c = λ command bytes s asked left right quiet still.
    let same = same_command c.in-Some.command command (c.in-Some.ensures.each command asked) in
    let only = c.in-Ok.ensures.only bytes s left (subst (λ (d : Command). IsRight d bytes s) (sym same) right) quiet in
    inl (is_status _ c.written-in-Ok.result status.Ok c.written-in-Ok.ensures.which c.written-in-Ok.ensures.fault still ∙ sym only)

pub returns-in-Err-Later-clause-write_fault_text : goal.returns-in-Err-Later-clause-write_fault_text
returns-in-Err-Later-clause-write_fault_text g c = λ failed.
    let right = subst (λ (e : NoOutput). IfSome (g.S.Source.left c.args.source.now) (λ bytes. IsRightOr c.in-Some.command bytes (Err e))) c.in-Err-Later.field-0-is c.in-Err-Later.ensures.right in
    (later_line, inr (c.in-Some.command, c.in-Some.ensures.found, inr (inr (inr (inl (right, refl))))), c.written-in-Err-Later.ensures.part failed)

pub returns-in-Err-Later-clause-complete : goal.returns-in-Err-Later-clause-complete
returns-in-Err-Later-clause-complete g c = λ command bytes s asked left right quiet still.
    let same = same_command c.in-Some.command command (c.in-Some.ensures.each command asked) in
    let only = c.in-Err-Later.ensures.only bytes s left (subst (λ (d : Command). IsRight d bytes s) (sym same) right) quiet in
    let later : s ≡ status.Later = rw c.in-Err-Later.field-0-is at only in
    inl (is_status _ c.written-in-Err-Later.result status.Later c.written-in-Err-Later.ensures.which c.written-in-Err-Later.ensures.fault still ∙ sym later)

pub returns-in-Ok-input_line-clause-input : goal.returns-in-Ok-input_line-clause-input
returns-in-Ok-input_line-clause-input g c = λ fault said.
    let same = same_fault c.written-in-Ok-input_line.result c.in-Err-Input.fault fault c.written-in-Ok-input_line.ensures.which said in
    let right = subst (λ (e : NoOutput). IfSome (g.S.Source.left c.args.source.now) (λ bytes. IsRightOr c.in-Some.command bytes (Err e))) c.in-Err-Input.field-0-is c.in-Err-Input.ensures.right in
    (c.in-Some.command, c.in-Some.ensures.found, subst (λ (f : InputFault). IfSome (g.S.Source.left c.args.source.now) (λ bytes. IsRight c.in-Some.command bytes (status.Input f))) same right)

pub returns-in-Ok-limit_line-clause-limit : goal.returns-in-Ok-limit_line-clause-limit
returns-in-Ok-limit_line-clause-limit g c = λ step which said.
    let same = same_limit c.written-in-Ok-limit_line.result c.in-Err-Limit.step step c.in-Err-Limit.which which c.written-in-Ok-limit_line.ensures.which said in
    let right = subst (λ (e : NoOutput). IfSome (g.S.Source.left c.args.source.now) (λ bytes. IsRightOr c.in-Some.command bytes (Err e))) c.in-Err-Limit.field-0-is c.in-Err-Limit.ensures.right in
    (c.in-Some.command, c.in-Some.ensures.found, subst (λ (s : Status). IfSome (g.S.Source.left c.args.source.now) (λ bytes. IsRight c.in-Some.command bytes s)) same right)

pub returns-in-Ok-limit_line-clause-write_fault_text : goal.returns-in-Ok-limit_line-clause-write_fault_text
returns-in-Ok-limit_line-clause-write_fault_text g c = λ failed.
    let right = subst (λ (e : NoOutput). IfSome (g.S.Source.left c.args.source.now) (λ bytes. IsRightOr c.in-Some.command bytes (Err e))) c.in-Err-Limit.field-0-is c.in-Err-Limit.ensures.right in
    (limit_line c.in-Err-Limit.step c.in-Err-Limit.which, inr (c.in-Some.command, c.in-Some.ensures.found, inr (inr (inr (inr (inl (c.in-Err-Limit.step, c.in-Err-Limit.which, right, refl)))))), rw (c.items-in-Ok-limit_line.ensures ∙ c.in-Ok-limit_line.ensures) at (c.written-in-Ok-limit_line.ensures.part failed))

pub returns-in-Ok-limit_line-clause-complete : goal.returns-in-Ok-limit_line-clause-complete
returns-in-Ok-limit_line-clause-complete g c = λ command bytes s asked left right quiet still.
    let same = same_command c.in-Some.command command (c.in-Some.ensures.each command asked) in
    let only = c.in-Err-Limit.ensures.only bytes s left (subst (λ (d : Command). IsRight d bytes s) (sym same) right) quiet in
    let limit : s ≡ status.Limit c.in-Err-Limit.step c.in-Err-Limit.which = rw c.in-Err-Limit.field-0-is at only in
    inl (is_status _ c.written-in-Ok-limit_line.result (status.Limit c.in-Err-Limit.step c.in-Err-Limit.which) c.written-in-Ok-limit_line.ensures.which c.written-in-Ok-limit_line.ensures.fault still ∙ sym limit)
