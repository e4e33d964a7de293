use Rattle.std.proofs.Common.{inl, inr, arith}
use Rattle.fw_wire.proofs.Reading.{none_same}
use Rattle.fw_frame.proofs.Reading.{no_number, number_off, number_on}
use Rattle.fw_frame.proofs.read.fields.number.Goals as goal

pub returns-in_err-n : goal.returns-in_err-n
returns-in_err-n c = none_same c.from_residual.ensures (no_number c.args.low c.args.high c.args.reader.now c.u32.new.self c.in_err-n.ensures.0)

pub returns-then-n-low : goal.returns-then-n-low
returns-then-n-low c = number_off c.args.low c.args.high c.in_ok-n.n c.args.reader.now c.u32.new.self c.u32.new.self (omega arith) (omega arith) (inl c.if-n-low.true) c.in_ok-n.ensures

pub returns-then-n-high : goal.returns-then-n-high
returns-then-n-high c = number_off c.args.low c.args.high c.in_ok-n.n c.args.reader.now c.u32.new.self c.u32.new.self (omega arith) (omega arith) (inr c.if-n-high.true) c.in_ok-n.ensures

pub returns : goal.returns
returns c = number_on c.args.low c.args.high c.in_ok-n.n c.args.reader.now c.u32.new.self (omega arith) c.if-n-low.false c.if-n-high.false c.in_ok-n.ensures
