use Rattle.std.proofs.Common.{rules}
use Rattle.fw_io.proofs.Writing.{written_more}
use Rattle.fw_io.proofs.sink.write_all.Goals as goal

pub loop-at-preserved : goal.loop-at-preserved
loop-at-preserved g c = record {
  within = search rules;
  counts = search rules;
  bounded = search rules;
  told = written_more _ _ _ _ _ _ c.loop-at.invariant.told c.in-Took.ensures.told;
  untold = search rules;
}
