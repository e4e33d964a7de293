-- The vote at hand, or one of those that are left.
use Rattle.std.proofs.Common.{◌≡◌, true, false, ap, sym, ◌∙◌}
use Rattle.std.specs.Prelude.{is_some}
use Rattle.fw_rules.specs.Agree as agree
use Rattle.fw_owned.specs.declared.owned.OwnedVote.{OwnedVote}
use Rattle.fw_kept.specs.Kept.{self_of, node_of, act_of}
use Rattle.fw_owned.specs.Pieces.{vote_of}
use Rattle.fw_owned.proofs.Found.{mapped_some, left_next, left_here}
use Rattle.fw_choose.proofs.passes.commits_in.Goals as goal

pub returns-then-is_some-clause-act : goal.returns-then-is_some-clause-act
returns-then-is_some-clause-act c = λ hand own.
    let f = λ (v : OwnedVote). agree.commits_by (self_of c.args.directory.now hand own) (node_of c.args.keeps.now) c.args.view c.args.number (vote_of v) in
    let now = c.in_ok-act.ensures.act hand own in
    let some : is_some (f c.vote-item.result) ≡ true = ap is_some (sym now) ∙ mapped_some act_of c.in_ok-act.act ∙ sym c.is_some.ensures ∙ c.if-is_some.true in
    now ∙ ap f c.vote-item.is
    ∙ left_here vote_of (agree.commits_by (self_of c.args.directory.now hand own) (node_of c.args.keeps.now) c.args.view c.args.number)
    c.items-vote-items.result.now c.loop-vote.vote-index c.vote-item.result c.loop-vote-test.true (ap (λ v. is_some (f v)) (sym c.vote-item.is) ∙ some)
    ∙ c.loop-vote.invariant hand own

pub loop-vote-preserved : goal.loop-vote-preserved
loop-vote-preserved c = λ hand own.
    let f = λ (v : OwnedVote). agree.commits_by (self_of c.args.directory.now hand own) (node_of c.args.keeps.now) c.args.view c.args.number (vote_of v) in
    let now = c.in_ok-act.ensures.act hand own in
    let none : is_some (f c.vote-item.result) ≡ false = ap is_some (sym now) ∙ mapped_some act_of c.in_ok-act.act ∙ sym c.is_some.ensures ∙ c.if-is_some.false in
    left_next vote_of (agree.commits_by (self_of c.args.directory.now hand own) (node_of c.args.keeps.now) c.args.view c.args.number)
    c.items-vote-items.result.now c.loop-vote.vote-index c.vote-item.result c.loop-vote-test.true (ap (λ v. is_some (f v)) (sym c.vote-item.is) ∙ none)
    ∙ c.loop-vote.invariant hand own
