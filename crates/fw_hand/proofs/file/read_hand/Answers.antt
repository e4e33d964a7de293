-- There is one directory and hand of a file.
use Rattle.std.proofs.Common.{sym, ◌∙◌}
use Rattle.std.proofs.lemmas.Bool.{true≢false}
use Rattle.fw_hand.proofs.Whole.{one_file}
use Rattle.fw_hand.proofs.file.read_hand.Goals as goal

pub returns-in_default-clause-each : goal.returns-in_default-clause-each
returns-in_default-clause-each c = λ d hand is.
    let one = one_file c.args.bytes.now c.file_in.new.reader c.in_ok-found.field-0 (rw c.new-reader.ensures at c.in_ok-found.ensures.finds) d hand is in
    rw c.in_default.is at one.0

pub returns-then-not-is_empty-clause-each : goal.returns-then-not-is_empty-clause-each
returns-then-not-is_empty-clause-each c = λ d hand is.
    let one = one_file c.args.bytes.now c.file_in.new.reader c.in_ok-found.field-0 (rw c.new-reader.ensures at c.in_ok-found.ensures.finds) d hand is in
    absurd (true≢false (sym (c.is_empty.ensures.1 one.1) ∙ c.if-not-is_empty.true))

pub returns-clause-each : goal.returns-clause-each
returns-clause-each c = λ d hand is.
    let one = one_file c.args.bytes.now c.file_in.new.reader c.in_ok-found.field-0 (rw c.new-reader.ensures at c.in_ok-found.ensures.finds) d hand is in
    rw c.in-Some.is at one.0
