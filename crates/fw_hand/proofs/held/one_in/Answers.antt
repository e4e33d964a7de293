-- The values that stand there, where each has its digest.
use Rattle.std.proofs.Common.{sym, ◌∙◌}
use Rattle.std.proofs.lemmas.Bool.{true≢false}
use Rattle.fw_hand.proofs.Items.{held_on, held_off}
use Rattle.fw_hand.proofs.held.one_in.Goals as goal

pub returns-then-not-are_listed : goal.returns-then-not-are_listed
returns-then-not-are_listed c =
    held_off c.args.directory.now c.args.point c.args.slot c.args.reader.now c.in-Some.values.now c.fixed.new.self c.fixed.new.self c.in-Some.ensures.0 c.in-Some.ensures.1
    (λ listed. true≢false (sym (c.are_listed.ensures.1 listed) ∙ c.if-not-are_listed.true))

pub returns : goal.returns
returns c =
    rw c.in_ok-values.ensures
    (held_on c.args.directory.now c.args.point c.args.slot c.args.reader.now c.in-Some.values.now c.fixed.new.self c.in-Some.ensures.0 c.in-Some.ensures.1 (c.are_listed.ensures.0 c.if-not-are_listed.false))
