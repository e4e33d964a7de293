-- What the check leaves to show of `value`.
use Rattle.std.proofs.Common.{◌≡◌, false, ap, sym, ◌∙◌}
use Rattle.std.proofs.lemmas.Bool.{true≢false}
use Rattle.fw_op.specs.Keys.{is_value}
use Rattle.fw_op.proofs.Fronts.{same_value}
use Rattle.fw_op.proofs.reader.Reader.value.Goals as goal

pub returns-then-is_value-clause-each : goal.returns-then-is_value-clause-each
returns-then-is_value-clause-each c = λ v rest fits is.
    same_value c.args.self.now c.double.new.self c.in_ok-value.value.now c.fixed.new.self v rest c.in_ok-len.len c.in_ok-len.ensures.0 c.in_ok-len.ensures.1 c.in_ok-value.ensures.0 c.in_ok-value.ensures.1 fits is

pub returns-else-is_value-clause-each : goal.returns-else-is_value-clause-each
returns-else-is_value-clause-each c = λ v rest fits is.
    let same = same_value c.args.self.now c.double.new.self c.in_ok-value.value.now c.fixed.new.self v rest c.in_ok-len.len c.in_ok-len.ensures.0 c.in_ok-len.ensures.1 c.in_ok-value.ensures.0 c.in_ok-value.ensures.1 fits is in
    let not_one : is_value c.in_ok-value.value.now ≡ false = sym c.if-is_value.ensures in
    true≢false (sym fits ∙ sym (ap is_value same.0) ∙ not_one)
