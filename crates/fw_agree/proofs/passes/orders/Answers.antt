-- One pass after another.
use Rattle.std.proofs.Common.{ap, ◌∙◌}
use Rattle.std.proofs.lemmas.Result.{on_ok_weaker}
use Rattle.fw_kept.specs.Kept.{self_of}
use Rattle.fw_agree.specs.Steps.{at}
use Rattle.fw_rules.specs.Agree as agree
use Rattle.fw_agree.proofs.Going.{passes_chain, each_requests}
use Rattle.fw_agree.proofs.passes.orders.Goals as goal

pub returns-clause-step : goal.returns-clause-step
returns-clause-step c =
    let me = self_of c.args.directory.now c.args.hand.now c.args.own in
    let start = at c.args.keeps.now c.args.out.now in
    let s0 = at c.goes_over.new.keeps c.goes_over.new.out in
    let same = ap (λ s. s.0.heard.requests) c.in_ok-goes_over.ensures.step ∙ each_requests me (agree.offers_choice me) (agree.numbers me) start in
    let offered = c.in_ok-offers_requests.ensures.step ∙ ap (λ r. agree.for_each me (agree.offers_request me) r s0) same in
    on_ok_weaker c.goes_over-5.result
    (λ step. passes_chain me start s0 (at c.offers_requests.new.keeps c.offers_requests.new.out) (at c.goes_over-2.new.keeps c.goes_over-2.new.out) (at c.goes_over-3.new.keeps c.goes_over-3.new.out) (at c.goes_over-4.new.keeps c.goes_over-4.new.out)
    (at c.goes_over-5.new.keeps c.goes_over-5.new.out) c.in_ok-goes_over.ensures.step offered c.in_ok-goes_over-2.ensures.step c.in_ok-goes_over-3.ensures.step c.in_ok-goes_over-4.ensures.step step)
    c.goes_over-5.ensures.step

pub offers_requests-requires-clause-for_sizes : goal.offers_requests-requires-clause-for_sizes
offers_requests-requires-clause-for_sizes c = c.goes_over.ensures.sizes c.args.directory.now.params c.requires.for_sizes

pub goes_over-requires-2-clause-for_sizes : goal.goes_over-requires-2-clause-for_sizes
goes_over-requires-2-clause-for_sizes c = c.offers_requests.ensures.sizes c.args.directory.now.params (c.goes_over.ensures.sizes c.args.directory.now.params c.requires.for_sizes)

pub goes_over-requires-3-clause-for_sizes : goal.goes_over-requires-3-clause-for_sizes
goes_over-requires-3-clause-for_sizes c = c.goes_over-2.ensures.sizes c.args.directory.now.params (c.offers_requests.ensures.sizes c.args.directory.now.params (c.goes_over.ensures.sizes c.args.directory.now.params c.requires.for_sizes))

pub goes_over-requires-4-clause-for_sizes : goal.goes_over-requires-4-clause-for_sizes
goes_over-requires-4-clause-for_sizes c = c.goes_over-3.ensures.sizes c.args.directory.now.params (c.goes_over-2.ensures.sizes c.args.directory.now.params (c.offers_requests.ensures.sizes c.args.directory.now.params (c.goes_over.ensures.sizes c.args.directory.now.params c.requires.for_sizes)))

pub goes_over-requires-5-clause-for_sizes : goal.goes_over-requires-5-clause-for_sizes
goes_over-requires-5-clause-for_sizes c = c.goes_over-4.ensures.sizes c.args.directory.now.params (c.goes_over-3.ensures.sizes c.args.directory.now.params (c.goes_over-2.ensures.sizes c.args.directory.now.params (c.offers_requests.ensures.sizes c.args.directory.now.params (c.goes_over.ensures.sizes c.args.directory.now.params c.requires.for_sizes))))

pub returns-in_err-offers_requests-clause-sizes : goal.returns-in_err-offers_requests-clause-sizes
returns-in_err-offers_requests-clause-sizes c = λ p was. c.offers_requests.ensures.sizes p (c.goes_over.ensures.sizes p was)

pub returns-in_err-goes_over-2-clause-sizes : goal.returns-in_err-goes_over-2-clause-sizes
returns-in_err-goes_over-2-clause-sizes c = λ p was. c.goes_over-2.ensures.sizes p (c.offers_requests.ensures.sizes p (c.goes_over.ensures.sizes p was))

pub returns-in_err-goes_over-3-clause-sizes : goal.returns-in_err-goes_over-3-clause-sizes
returns-in_err-goes_over-3-clause-sizes c = λ p was. c.goes_over-3.ensures.sizes p (c.goes_over-2.ensures.sizes p (c.offers_requests.ensures.sizes p (c.goes_over.ensures.sizes p was)))

pub returns-in_err-goes_over-4-clause-sizes : goal.returns-in_err-goes_over-4-clause-sizes
returns-in_err-goes_over-4-clause-sizes c = λ p was. c.goes_over-4.ensures.sizes p (c.goes_over-3.ensures.sizes p (c.goes_over-2.ensures.sizes p (c.offers_requests.ensures.sizes p (c.goes_over.ensures.sizes p was))))

pub returns-clause-sizes : goal.returns-clause-sizes
returns-clause-sizes c = λ p was. c.goes_over-5.ensures.sizes p (c.goes_over-4.ensures.sizes p (c.goes_over-3.ensures.sizes p (c.goes_over-2.ensures.sizes p (c.offers_requests.ensures.sizes p (c.goes_over.ensures.sizes p was)))))
