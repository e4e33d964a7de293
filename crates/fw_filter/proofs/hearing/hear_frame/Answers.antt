-- A share from its executor.
use Rattle.std.proofs.Common.{◌∙◌, ap, sym}
use Rattle.std.proofs.lemmas.Result.{on_ok_weaker}
use Rattle.fw_frame.specs.Plain.{plain}
use Rattle.fw_frame.specs.View.{viewed}
use Rattle.fw_filter.proofs.Heard.{shared-alone}
use Rattle.fw_filter.proofs.hearing.hear_frame.Goals as goal

pub returns-in-Exec-Share-clause-step : goal.returns-in-Exec-Share-clause-step
returns-in-Exec-Share-clause-step c =
    on_ok_weaker c.hear_share.result
    (λ step sp speaks ready.
    shared-alone c.args.sieve.now.params c.args.sieve.now.row c.args.column sp c.args.sieve.now.keeps c.args.from c.args.bytes.now (viewed (plain c.args.frame.now)) c.in-Exec-Share.one _ c.hear_share.new.self.keeps c.args.out.now c.hear_share.new.out
    c.in-Exec-Share.is-0 (ap (λ f. viewed (plain f)) (sym c.frame.ensures ∙ c.in-Exec-Share.is-1)) c.if-exec-one.true (step sp speaks ready))
    c.hear_share.ensures.step
