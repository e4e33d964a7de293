-- One row more.
use Rattle.std.specs.Prelude.{filter}
use Rattle.fw_list.specs.Lists.{numbers_from}
use Rattle.fw_fair.specs.Correct.{is_whole}
use Rattle.fw_seen.specs.Summary.{cross_lines}
use Rattle.fw_seen.proofs.Counting.{rows_more}
use Rattle.fw_seen.proofs.crossing.cross_lines.Goals as goal

pub loop-row-preserved : goal.loop-row-preserved
loop-row-preserved c =
    rows_more c.args.params.now c.args.faulty.now c.args.pool.now c.loop-row.lines c.add_row.new.lines
    (cross_lines c.args.params.now c.args.pool.now (filter (is_whole c.args.params.now c.args.faulty.now) (numbers_from 0 c.width-row-end.result))) c.width-row-end.result c.loop-row.row
    c.loop-row-test.true c.loop-row.invariant c.in_ok-add_row.ensures
