-- The view at hand, or one of those that are left.
use Rattle.std.proofs.Common.{◌≡◌, ◌-◌, ◌<◌, true, false, ap, sym, subst, ◌∙◌, arith}
use Rattle.std.specs.Prelude.{is_some}
use Rattle.fw_base.specs.declared.params.Params.{Params}
use Rattle.fw_rules.specs.Choices.{first_some}
use Rattle.fw_rules.specs.Views as views
use Rattle.fw_owned.proofs.Found.{mapped_some}
use Rattle.fw_kept.specs.Kept.{node_of}
use Rattle.fw_turn.specs.Turns.{turn_of}
use Rattle.fw_turn.proofs.Turning.{next_view, this_view}
use Rattle.fw_turn.proofs.choosing.adopts.Goals as goal

pub returns-then-is_some-clause-turn : goal.returns-then-is_some-clause-turn
returns-then-is_some-clause-turn c = λ hand own.
    let f = views.adopts_at (node_of c.args.keeps.now) in
    let count = c.params.result.now.views in
    let now = c.in_ok-turn.ensures.turn in
    let some : is_some (f (count - 1 - c.loop-k.k)) ≡ true = ap is_some (sym now) ∙ mapped_some turn_of c.in_ok-turn.turn ∙ sym c.is_some.ensures ∙ c.if-is_some.true in
    now ∙ this_view f count c.loop-k.k c.loop-k-test.true some
    ∙ c.loop-k.invariant
    ∙ ap (λ (p : Params). first_some f (views.views_down p.views)) c.params.ensures.same

pub returns-then-is_some-clause-within : goal.returns-then-is_some-clause-within
returns-then-is_some-clause-within c =
    let count = c.params.result.now.views in
    let below : count - 1 - c.loop-k.k < count = omega (arith, c.loop-k-test.true) in
    c.in_ok-turn.ensures.within c.args.directory.now.params (subst (λ (p : Params). count - 1 - c.loop-k.k < p.views) c.params.ensures.same below)

pub loop-k-preserved : goal.loop-k-preserved
loop-k-preserved c =
    let f = views.adopts_at (node_of c.args.keeps.now) in
    let count = c.params.result.now.views in
    let none : is_some (f (count - 1 - c.loop-k.k)) ≡ false = ap is_some (sym c.in_ok-turn.ensures.turn) ∙ mapped_some turn_of c.in_ok-turn.turn ∙ sym c.is_some.ensures ∙ c.if-is_some.false in
    next_view f count c.loop-k.k c.loop-k-test.true none ∙ c.loop-k.invariant
