-- What the check leaves to show of `key`.
use Rattle.std.proofs.Common.{◌≡◌, false, ap, sym, ◌∙◌}
use Rattle.std.proofs.lemmas.Bool.{true≢false}
use Rattle.fw_op.specs.Keys.{is_key}
use Rattle.fw_op.proofs.Fronts.{same_key}
use Rattle.fw_op.proofs.reader.Reader.key.Goals as goal

pub returns-then-is_key-clause-each : goal.returns-then-is_key-clause-each
returns-then-is_key-clause-each c = λ k rest fits is.
    same_key c.args.self.now c.byte.new.self c.in_ok-key.key.now c.fixed.new.self k rest c.in_ok-len.len c.in_ok-len.ensures c.in_ok-key.ensures.0 c.in_ok-key.ensures.1 is

pub returns-else-is_key-clause-each : goal.returns-else-is_key-clause-each
returns-else-is_key-clause-each c = λ k rest fits is.
    let same = same_key c.args.self.now c.byte.new.self c.in_ok-key.key.now c.fixed.new.self k rest c.in_ok-len.len c.in_ok-len.ensures c.in_ok-key.ensures.0 c.in_ok-key.ensures.1 is in
    let not_one : is_key c.in_ok-key.key.now ≡ false = sym c.if-is_key.ensures in
    true≢false (sym fits ∙ sym (ap is_key same.0) ∙ not_one)
