-- Readers after their count.
use Rattle.std.proofs.Common.{sym, ◌∙◌}
use Rattle.fw_record.specs.Parts.{rising}
use Rattle.fw_record.proofs.Finding.{part_on, part_off}
use Rattle.fw_record.proofs.fields.readers_in.Goals as goal

pub returns-then-are_readers : goal.returns-then-are_readers
returns-then-are_readers c = part_on (rising c.args.clients 0) c.in_ok-count.count c.args.reader.now c.u8.new.self c.in_ok-readers.readers.now c.fixed.new.self c.in_ok-count.ensures c.in_ok-readers.ensures.0 c.in_ok-readers.ensures.1 (sym c.are_readers.ensures ∙ c.if-are_readers.true)

pub returns-else-are_readers : goal.returns-else-are_readers
returns-else-are_readers c = part_off (rising c.args.clients 0) c.in_ok-count.count c.args.reader.now c.u8.new.self c.in_ok-readers.readers.now c.fixed.new.self c.fixed.new.self c.in_ok-count.ensures c.in_ok-readers.ensures.0 c.in_ok-readers.ensures.1 (sym c.are_readers.ensures ∙ c.if-are_readers.false)
