-- A request that is answered already gets the reply, and any other is remembered.
use Rattle.std.proofs.lemmas.Result.{on_ok_weaker}
use Rattle.fw_frame.specs.Plain.{plain_request}
use Rattle.fw_frame.specs.View.{viewed_request}
use Rattle.fw_kept.specs.Kept.{node_of}
use Rattle.fw_agree.proofs.Heard.{answered, unanswered}
use Rattle.fw_agree.proofs.hearing.hears_request.Goals as goal

pub returns-in-Some-clause-step : goal.returns-in-Some-clause-step
returns-in-Some-clause-step c =
    on_ok_weaker c.resends.result
    (λ sent hand own. answered c.args.directory.now hand own (node_of c.args.keeps.now) c.args.from (viewed_request (plain_request c.args.request.now)) c.in-Some.reply.now c.args.out.now c.resends.new.out (c.in-Some.ensures hand own) sent)
    c.resends.ensures.sent

pub returns-in-None-clause-step : goal.returns-in-None-clause-step
returns-in-None-clause-step c =
    on_ok_weaker c.remembers_request.result
    (λ kept hand own. unanswered c.args.directory.now hand own (node_of c.args.keeps.now) (node_of c.remembers_request.new.keeps) c.args.from (viewed_request (plain_request c.args.request.now)) c.args.out.now (c.in-None.ensures hand own) kept)
    c.remembers_request.ensures.kept
