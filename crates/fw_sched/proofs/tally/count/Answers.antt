-- What is left to show of `count`.
use Rattle.std.proofs.Common.{◌<◌, arith, sym, ◌∙◌}
use Rattle.std.proofs.lemmas.Bool.{ltb-true}
use Rattle.fw_sched.proofs.Counted.{counted_more, not_counted}
use Rattle.fw_sched.proofs.tally.count.Goals as goal

pub returns-in-Submit-clause-counts : goal.returns-in-Submit-clause-counts
returns-in-Submit-clause-counts c = λ before are n below.
    let inside : c.in-Submit.client < 8 = ltb-true c.in-Submit.client 8 (rw c.in-Submit.is at c.requires.counter) in
    rw c.in-Submit.is (counted_more c.args.counts.now c.in-Submit.client c.in-Submit.op before c.requires.eight inside are n below)

pub returns-in_default : goal.returns-in_default
returns-in_default c = record {
  counts = λ before are n below. are n below ∙ sym (not_counted c.args.step.now (λ client op e. c.in_default.not-Submit client op e) n before);
  eight = c.requires.eight;
  few = λ n below. omega arith;
}
