-- A key after its length.
use Rattle.std.proofs.Common.{sym, ◌∙◌}
use Rattle.fw_op.specs.Keys.{is_key}
use Rattle.fw_record.proofs.Finding.{part_on, part_off}
use Rattle.fw_record.proofs.fields.key_in.Goals as goal

pub returns-then-is_key : goal.returns-then-is_key
returns-then-is_key c = part_on is_key c.in_ok-len.len c.args.reader.now c.u8.new.self c.in_ok-key.key.now c.fixed.new.self c.in_ok-len.ensures c.in_ok-key.ensures.0 c.in_ok-key.ensures.1 (sym c.is_key.ensures ∙ c.if-is_key.true)

pub returns-else-is_key : goal.returns-else-is_key
returns-else-is_key c = part_off is_key c.in_ok-len.len c.args.reader.now c.u8.new.self c.in_ok-key.key.now c.fixed.new.self c.fixed.new.self c.in_ok-len.ensures c.in_ok-key.ensures.0 c.in_ok-key.ensures.1 (sym c.is_key.ensures ∙ c.if-is_key.false)
