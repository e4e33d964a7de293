-- One number more.
use Rattle.std.proofs.Common.{◌+◌, ◌-◌, ap, sym, ◌∙◌}
use Rattle.fw_list.specs.Lists.{numbers_from}
use Rattle.fw_rules.specs.Agree.{acted, for_each}
use Rattle.fw_kept.specs.Kept.{self_of}
use Rattle.fw_agree.specs.Steps.{at, chooses}
use Rattle.fw_agree.proofs.Going.{each_next}
use Rattle.fw_clock.proofs.Sending.{begins_over}
use Rattle.fw_agree.proofs.passes.goes_over.Goals as goal

pub loop-k-preserved : goal.loop-k-preserved
loop-k-preserved c =
    let me = self_of c.args.directory.now c.args.hand.now c.args.own in
    let f = chooses c.args.pass me in
    let s = at c.loop-k.keeps c.loop-k.out in
    let k = c.loop-k.k in
    let end = c.params.result.now.numbers in
    record {
      step = ap (for_each me f (numbers_from (k + 1 + 1) (end - (k + 1)))) (c.in_ok-does.ensures.step ∙ ap (acted me s) (c.in_ok-act.ensures.act c.args.hand.now)) ∙ sym (each_next me f k end s c.loop-k-test.true) ∙ c.loop-k.invariant.step;
      sizes = λ p was. c.does.ensures.sizes p (c.loop-k.invariant.sizes p was);
      begins = begins_over c.args.out.now c.loop-k.out c.does.new.out c.loop-k.invariant.begins c.in_ok-does.ensures.begins;
    }

pub chosen-requires-clause-for_sizes : goal.chosen-requires-clause-for_sizes
chosen-requires-clause-for_sizes c = c.loop-k.invariant.sizes c.args.directory.now.params c.requires.for_sizes

pub does-requires-clause-for_sizes : goal.does-requires-clause-for_sizes
does-requires-clause-for_sizes c = c.loop-k.invariant.sizes c.args.directory.now.params c.requires.for_sizes

pub returns-in_err-does-clause-sizes : goal.returns-in_err-does-clause-sizes
returns-in_err-does-clause-sizes c = λ p was. c.does.ensures.sizes p (c.loop-k.invariant.sizes p was)
