-- One number more.
use Rattle.std.proofs.Common.{◌++◌}
use Rattle.fw_list.specs.Lists.{numbers_from}
use Rattle.fw_seen.specs.Summary.{row_lines}
use Rattle.fw_seen.proofs.Counting.{row_more}
use Rattle.fw_seen.proofs.crossing.push_row.Goals as goal

pub loop-k-preserved : goal.loop-k-preserved
loop-k-preserved c =
    row_more c.args.row c.args.down.now c.loop-k.lines c.push_line.new.lines (c.args.lines.now ++ row_lines c.args.row c.args.down.now (numbers_from 1 c.args.params.now.numbers)) c.args.params.now.numbers c.loop-k.k c.copies.result
    c.loop-k-test.true c.copies.ensures c.loop-k.invariant c.in_ok-push_line.ensures
