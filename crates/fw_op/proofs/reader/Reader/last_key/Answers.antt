-- What the check leaves to show of `last_key`.
use Rattle.std.proofs.Common.{sym, ◌∙◌, []}
use Rattle.std.proofs.lemmas.List.{append-nil}
use Rattle.fw_op.specs.Keys.{key_bytes}
use Rattle.fw_op.proofs.reader.Reader.last_key.Goals as goal

pub returns-in_default-clause-none : goal.returns-in_default-clause-none
returns-in_default-clause-none c = λ x fits is. c.in_default.ensures.each x [] fits (is ∙ sym (append-nil (key_bytes x)))
