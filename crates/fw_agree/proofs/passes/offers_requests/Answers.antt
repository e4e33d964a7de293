-- No request is left.
use Rattle.std.proofs.Common.{◌≤◌, ◌+◌, length, map, drop, refl, sym, ap, ◌∙◌, arith}
use Rattle.std.specs.Option.{option_map}
use Rattle.fw_rules.specs.Agree as agree
use Rattle.fw_kept.specs.Kept.{self_of, act_of}
use Rattle.fw_owned.specs.Pieces.{request_of}
use Rattle.fw_agree.specs.Steps.{at}
use Rattle.fw_clock.proofs.Sending.{begins_over}
use Rattle.fw_agree.proofs.Going.{offered_last, acted_requests}
use Rattle.fw_agree.proofs.passes.offers_requests.Goals as goal

pub returns-clause-step : goal.returns-clause-step
returns-clause-step c =
    let me = self_of c.args.directory.now c.args.hand.now c.args.own in
    let requests = c.args.keeps.now.requests in
    let start = at c.args.keeps.now c.args.out.now in
    let over : length requests ≤ c.loop-place.place = omega arith in
    offered_last me request_of requests c.loop-place.place (at c.loop-place.keeps c.loop-place.out) (agree.for_each me (agree.offers_request me) (map request_of requests) start) over c.loop-place.invariant.step

pub does-requires-clause-for_sizes : goal.does-requires-clause-for_sizes
does-requires-clause-for_sizes c = c.loop-place.invariant.sizes c.args.directory.now.params c.requires.for_sizes

pub returns-in_err-does-clause-sizes : goal.returns-in_err-does-clause-sizes
returns-in_err-does-clause-sizes c = λ p was. c.does.ensures.sizes p (c.loop-place.invariant.sizes p was)

pub loop-place-preserved : goal.loop-place-preserved
loop-place-preserved c =
    let me = self_of c.args.directory.now c.args.hand.now c.args.own in
    let requests = map request_of c.args.keeps.now.requests in
    let s = at c.loop-place.keeps c.loop-place.out in
    let k = c.loop-place.place in
    let act = option_map act_of c.in_ok-act.act in
    let same = c.loop-place.invariant.same in
    record {
      step = ap (agree.for_each me (agree.offers_request me) (drop (k + 1) requests)) c.in_ok-does.ensures.step
          ∙ ap (λ r. agree.for_each me (agree.offers_request me) (drop (k + 1) r) (agree.acted me s act)) (sym same)
          ∙ sym (c.in_ok-act.ensures.act c.args.hand.now s refl)
          ∙ ap (λ r. agree.for_each me (agree.offers_request me) (drop k r) s) same
          ∙ c.loop-place.invariant.step;
      same = ap (λ t. t.0.heard.requests) c.in_ok-does.ensures.step ∙ acted_requests me s act ∙ same;
      sizes = λ p was. c.does.ensures.sizes p (c.loop-place.invariant.sizes p was);
      begins = begins_over c.args.out.now c.loop-place.out c.does.new.out c.loop-place.invariant.begins c.in_ok-does.ensures.begins;
    }
