-- A value after its length.
use Rattle.std.proofs.Common.{arith, sym, ◌∙◌}
use Rattle.fw_list.specs.Numbers as numbers
use Rattle.fw_record.proofs.Finding.{value_on, value_off}
use Rattle.fw_record.proofs.fields.value_in.Goals as goal

pub returns-then-is_value : goal.returns-then-is_value
unfolding numbers.u16
returns-then-is_value c = value_on c.in_ok-len.len c.args.reader.now c.u16.new.self c.in_ok-value.value.now c.fixed.new.self (omega arith) c.in_ok-len.ensures c.in_ok-value.ensures.0 c.in_ok-value.ensures.1 (sym c.is_value.ensures ∙ c.if-is_value.true)

pub returns-else-is_value : goal.returns-else-is_value
unfolding numbers.u16
returns-else-is_value c =
    value_off c.in_ok-len.len c.args.reader.now c.u16.new.self c.in_ok-value.value.now c.fixed.new.self c.fixed.new.self (omega arith) c.in_ok-len.ensures c.in_ok-value.ensures.0 c.in_ok-value.ensures.1 (sym c.is_value.ensures ∙ c.if-is_value.false)
