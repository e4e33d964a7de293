-- The view at hand, or one of those that are left.
use Rattle.std.proofs.Common.{◌≡◌, true, false, ap, sym, ◌∙◌}
use Rattle.std.specs.Prelude.{is_some}
use Rattle.std.specs.Option.{option_map}
use Rattle.fw_list.specs.Lists.{numbers_from}
use Rattle.fw_base.specs.declared.params.Params.{Params}
use Rattle.fw_rules.specs.Agree as agree
use Rattle.fw_rules.specs.Choices.{first_some}
use Rattle.fw_kept.specs.Kept.{self_of, node_of, act_of}
use Rattle.fw_owned.specs.Pieces.{agreed_of}
use Rattle.fw_owned.proofs.Found.{mapped_some, copied_some}
use Rattle.fw_choose.proofs.Numbered.{first_next, first_here}
use Rattle.fw_choose.proofs.Choosing.{agreed_same, commits_open, commits_shut}
use Rattle.fw_choose.proofs.Opening.{none_agreed, some_open}
use Rattle.fw_settled.specs.Queued.{agreed_in}
use Rattle.fw_choose.proofs.passes.commits.Goals as goal

pub returns-then-is_some-clause-act : goal.returns-then-is_some-clause-act
returns-then-is_some-clause-act c = λ hand own.
    let x = node_of c.args.keeps.now in
    commits_shut (self_of c.args.directory.now hand own) x c.args.number
    (ap is_some (sym (ap (option_map agreed_of) c.agreed_at.ensures ∙ agreed_same c.args.keeps.now.settled.committed c.args.number)) ∙ copied_some agreed_of c.agreed_at.result ∙ sym c.is_some.ensures ∙ c.if-is_some.true)

pub returns-then-is_some-2-clause-open : goal.returns-then-is_some-2-clause-open
returns-then-is_some-2-clause-open c =
    let none = none_agreed c.agreed_at.result (agreed_in c.args.keeps.now.settled.committed c.args.number) c.agreed_at.ensures (sym c.is_some.ensures ∙ c.if-is_some.false) in
    some_open c.args.keeps.now c.args.number c.in_ok-act.act none c.in_ok-act.ensures.commit c.in_ok-act.ensures.number

pub returns-then-is_some-2-clause-act : goal.returns-then-is_some-2-clause-act
returns-then-is_some-2-clause-act c = λ hand own.
    let me = self_of c.args.directory.now hand own in
    let x = node_of c.args.keeps.now in
    let f = agree.commits_in me x c.args.number in
    let now = c.in_ok-act.ensures.act hand own in
    let some : is_some (f c.loop-view.view) ≡ true = ap is_some (sym now) ∙ mapped_some act_of c.in_ok-act.act ∙ sym c.is_some-in-loop-view.ensures ∙ c.if-is_some-2.true in
    let fresh : is_some (agree.agreed_at x c.args.number) ≡ false = ap is_some (sym (ap (option_map agreed_of) c.agreed_at.ensures ∙ agreed_same c.args.keeps.now.settled.committed c.args.number)) ∙ copied_some agreed_of c.agreed_at.result ∙ sym c.is_some.ensures ∙ c.if-is_some.false in
    commits_open me x c.args.number _ fresh
    (now ∙ first_here f c.loop-view.view c.loop-view.view c.params.result.now.views c.loop-view-test.true some
    ∙ c.loop-view.invariant hand own
    ∙ ap (λ (p : Params). first_some f (numbers_from 0 p.views)) c.params.ensures.same)

pub loop-view-preserved : goal.loop-view-preserved
loop-view-preserved c = λ hand own.
    let f = agree.commits_in (self_of c.args.directory.now hand own) (node_of c.args.keeps.now) c.args.number in
    let now = c.in_ok-act.ensures.act hand own in
    let none : is_some (f c.loop-view.view) ≡ false = ap is_some (sym now) ∙ mapped_some act_of c.in_ok-act.act ∙ sym c.is_some-in-loop-view.ensures ∙ c.if-is_some-2.false in
    first_next f c.loop-view.view c.loop-view.view c.params.result.now.views c.loop-view-test.true none
    ∙ c.loop-view.invariant hand own
