-- One seat more.
use Rattle.std.proofs.Common.{sym, ap, ◌∙◌, ◌+◌, arith}
use Rattle.fw_grid.proofs.places.correct_below.Goals as goal

pub loop-k-preserved : goal.loop-k-preserved
loop-k-preserved c = record {
  count = ap (λ n. n + c.one_if_correct-below.result) c.loop-k.invariant.count ∙ sym c.one_if_correct-below.ensures.more;
  few = (let f = c.loop-k.invariant.few in let o = c.one_if_correct-below.ensures.one in omega arith);
}
