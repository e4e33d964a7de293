-- The number at hand, or one of those that are left.
use Rattle.std.proofs.Common.{◌≡◌, ◌+◌, true, false, not, ap, sym, ◌∙◌}
use Rattle.std.specs.Prelude.{is_some}
use Rattle.fw_list.specs.Lists.{numbers_from}
use Rattle.fw_base.specs.declared.params.Params.{Params}
use Rattle.fw_rules.specs.Agree as rules
use Rattle.fw_rules.specs.Choices.{first_some}
use Rattle.fw_rules.specs.Views as views
use Rattle.fw_kept.specs.Kept.{node_of}
use Rattle.fw_choose.proofs.Numbered.{first_next, first_here}
use Rattle.fw_clock.proofs.Waiting.{committed_is, open_some, shut_none}
use Rattle.fw_clock.proofs.again.least_open.Goals as goal

pub returns-then-is_none-clause-least : goal.returns-then-is_none-clause-least
returns-then-is_none-clause-least c = λ hand own.
    let x = node_of c.args.keeps.now in
    let n = c.loop-k.k + 1 in
    let free : is_some (rules.agreed_at x n) ≡ false = committed_is c.args.keeps.now n c.agreed_at.result c.agreed_at.ensures ∙ c.is_none.ensures ∙ ap not c.if-is_none.true in
    open_some x n free
    ∙ first_here (views.uncommitted x) n c.loop-k.k c.params.result.now.numbers c.loop-k-test.true (ap is_some (sym (open_some x n free)))
    ∙ c.loop-k.invariant
    ∙ ap (λ (p : Params). first_some (views.uncommitted x) (numbers_from 1 p.numbers)) c.params.ensures.same

pub loop-k-preserved : goal.loop-k-preserved
loop-k-preserved c =
    let x = node_of c.args.keeps.now in
    let n = c.loop-k.k + 1 in
    let shut : is_some (rules.agreed_at x n) ≡ true = committed_is c.args.keeps.now n c.agreed_at.result c.agreed_at.ensures ∙ c.is_none.ensures ∙ ap not c.if-is_none.false in
    first_next (views.uncommitted x) n c.loop-k.k c.params.result.now.numbers c.loop-k-test.true (shut_none x n shut)
    ∙ c.loop-k.invariant
