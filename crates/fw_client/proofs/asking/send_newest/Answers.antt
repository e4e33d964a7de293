-- The newest request is sent.
use Rattle.std.proofs.Common.{ap, sym, ◌∙◌, map, drop}
use Rattle.std.proofs.lemmas.Result.{on_ok_weaker}
use Rattle.fw_list.specs.Lists.{numbers_from}
use Rattle.fw_base.specs.Sizes.{agreements}
use Rattle.fw_base.specs.declared.seat.Seat.TheVariants as seats
use Rattle.fw_trace.specs.Client as clients
use Rattle.fw_client.specs.Standing.{speech_of}
use Rattle.fw_client.proofs.Sending.{newest_sent}
use Rattle.fw_client.proofs.asking.send_newest.Goals as goal

pub returns-clause-sent : goal.returns-clause-sent
returns-clause-sent c =
    let keeps = c.args.submissions.now.keeps in
    on_ok_weaker c.send_to_all.result
    (λ sent d same. newest_sent (speech_of c.args.client c.args.hand.now d) keeps.asked (drop 1 keeps.asked) c.in-Some.op.now (clients.stamp keeps) c.in-Some.stamp c.items-2.result.now c.args.out.now c.send_to_all.new.self
    c.items.result.now c.in-Some.ensures.found.0 c.in-Some.ensures.found.1 (c.items-2.ensures ∙ c.in_ok-bytes.ensures d) (c.items.ensures ∙ c.in_ok-to.ensures ∙ ap (λ p. map seats.Agree (numbers_from 0 (agreements p))) (sym same)) sent)
    c.send_to_all.ensures.ok
