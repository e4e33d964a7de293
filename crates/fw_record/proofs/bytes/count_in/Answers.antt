-- A count up to the most.
use Rattle.std.proofs.Common.{arith}
use Rattle.fw_wire.proofs.Reading.{none_same}
use Rattle.fw_record.proofs.Finding.{no_count, count_on, count_off}
use Rattle.fw_record.proofs.bytes.count_in.Goals as goal

pub returns-in_err-count : goal.returns-in_err-count
returns-in_err-count c = none_same c.from_residual.ensures (no_count 256 c.args.reader.now c.u32.new.self c.in_err-count.ensures.0)

pub returns-then-count-le-MOST_RECORDS : goal.returns-then-count-le-MOST_RECORDS
returns-then-count-le-MOST_RECORDS c = count_on 256 c.in_ok-count.count c.args.reader.now c.u32.new.self (omega arith) (omega arith) c.in_ok-count.ensures

pub returns-else-count-le-MOST_RECORDS : goal.returns-else-count-le-MOST_RECORDS
returns-else-count-le-MOST_RECORDS c = count_off 256 c.in_ok-count.count c.args.reader.now c.u32.new.self c.u32.new.self (omega arith) (omega arith) (omega arith) c.in_ok-count.ensures
