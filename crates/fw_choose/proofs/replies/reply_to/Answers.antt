-- The number at hand, or one of those that are left.
use Rattle.std.proofs.Common.{◌≡◌, ◌+◌, true, false, ap, sym, ◌∙◌}
use Rattle.std.specs.Prelude.{is_some}
use Rattle.fw_list.specs.Lists.{numbers_from}
use Rattle.fw_base.specs.declared.params.Params.{Params}
use Rattle.fw_rules.specs.Agree as agree
use Rattle.fw_rules.specs.Choices.{first_some}
use Rattle.fw_kept.specs.Kept as kept
use Rattle.fw_owned.specs.Pieces as pieces
use Rattle.fw_owned.proofs.Found.{copied_some}
use Rattle.fw_choose.proofs.Numbered.{first_next, first_here}
use Rattle.fw_choose.proofs.replies.reply_to.Goals as goal

pub returns-then-is_some : goal.returns-then-is_some
returns-then-is_some c = λ hand own.
    let f = agree.reply_at (kept.node_of c.args.keeps.now) c.args.client c.args.stamp in
    let some : is_some (f (c.loop-k.k + 1)) ≡ true = ap is_some (sym c.reply_at-found.ensures) ∙ copied_some pieces.reply_of c.reply_at-found.result ∙ sym c.is_some.ensures ∙ c.if-is_some.true in
    c.reply_at-found.ensures
    ∙ first_here f (c.loop-k.k + 1) c.loop-k.k c.params.result.now.numbers c.loop-k-test.true some
    ∙ c.loop-k.invariant
    ∙ ap (λ (p : Params). first_some f (numbers_from 1 p.numbers)) c.params.ensures.same

pub loop-k-preserved : goal.loop-k-preserved
loop-k-preserved c =
    let f = agree.reply_at (kept.node_of c.args.keeps.now) c.args.client c.args.stamp in
    let none : is_some (f (c.loop-k.k + 1)) ≡ false = ap is_some (sym c.reply_at-found.ensures) ∙ copied_some pieces.reply_of c.reply_at-found.result ∙ sym c.is_some.ensures ∙ c.if-is_some.false in
    first_next f (c.loop-k.k + 1) c.loop-k.k c.params.result.now.numbers c.loop-k-test.true none
    ∙ c.loop-k.invariant
