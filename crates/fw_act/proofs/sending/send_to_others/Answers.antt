-- Each other agreement node gets it.
use Rattle.std.proofs.Common.{ap, ◌∙◌, filter}
use Rattle.std.proofs.lemmas.Result.{on_ok_weaker}
use Rattle.fw_list.specs.Lists.{numbers_from}
use Rattle.fw_base.specs.Sizes.{agreements}
use Rattle.fw_base.specs.declared.seat.Seat.TheVariants as seats
use Rattle.fw_means.specs.Means.{written}
use Rattle.fw_act.specs.Doing.{others}
use Rattle.fw_act.proofs.Others.{but, sent_each}
use Rattle.fw_act.proofs.sending.send_to_others.Goals as goal

pub returns-clause-sent : goal.returns-clause-sent
returns-clause-sent c =
    on_ok_weaker c.send_to_all.result
    (λ sent hand frame same. sent_each seats.Agree (filter (but c.args.own) (numbers_from 0 (agreements c.args.directory.now.params))) c.items.result.now c.args.bytes.now (written frame) c.args.out.now c.send_to_all.new.self
    (c.items.ensures ∙ c.in_ok-to.ensures ∙ ap (λ p. others p c.args.own) c.params.ensures.same) same sent)
    c.send_to_all.ensures.ok
