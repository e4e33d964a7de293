-- What the check leaves to show of `last_names`.
use Rattle.std.proofs.Common.{nat_le, [], length, sym, ◌∙◌}
use Rattle.std.proofs.lemmas.Bool.{and_parts, true≢false}
use Rattle.std.specs.List.{list_all}
use Rattle.fw_op.specs.Replies.{name_fits}
use Rattle.fw_op.proofs.NameBytes.{same_names, counted}
use Rattle.fw_op.proofs.reply_bytes.last_names.Goals as goal

pub returns-in_default-2-clause-none : goal.returns-in_default-2-clause-none
returns-in_default-2-clause-none c = λ names fit is.
    let stands = counted c.args.reader.now c.byte.new.self c.in-Some.count names c.in-Some.ensures is in
    (rw c.in_default-2.is at c.in_ok-names.ensures.none) names [] stands.0 (and_parts (nat_le (length names) 24) (list_all (name_fits 8) names) fit).1 stands.1

pub returns-else-is_empty-clause-none : goal.returns-else-is_empty-clause-none
returns-else-is_empty-clause-none c = λ names fit is.
    let stands = counted c.args.reader.now c.byte.new.self c.in-Some.count names c.in-Some.ensures is in
    let found = rw c.in-Some-2.is at c.in_ok-names.ensures.found in
    let same = same_names c.some_names.new.reader [] c.in-Some-2.names names (found.1 ∙ sym stands.0) (sym found.0 ∙ stands.1) in
    true≢false (sym (c.is_empty.ensures.1 same.1) ∙ c.if-is_empty.false)
