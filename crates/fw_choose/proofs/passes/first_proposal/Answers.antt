-- The proposal at hand, or one of those that are left.
use Rattle.std.proofs.Common.{◌≡◌, true, false, ap, sym, ◌∙◌}
use Rattle.std.specs.Prelude.{is_some}
use Rattle.fw_rules.specs.Agree as agree
use Rattle.fw_owned.specs.declared.owned.OwnedPropose.{OwnedPropose}
use Rattle.fw_kept.specs.Kept.{self_of, node_of}
use Rattle.fw_owned.specs.Pieces.{propose_of}
use Rattle.fw_owned.proofs.Found.{left_next, left_here}
use Rattle.fw_choose.proofs.Choosing.{may_here, may_not}
use Rattle.fw_choose.proofs.passes.first_proposal.Goals as goal

pub returns-then-may_prepare : goal.returns-then-may_prepare
returns-then-may_prepare c = λ d hand own.
    let me = self_of d hand own in
    let x = node_of c.args.keeps.now in
    let f = λ (m : OwnedPropose). agree.prepares_one me x c.args.number (propose_of m) in
    let here = may_here me x c.args.number (propose_of c.propose-item.result) (sym (c.may_prepare.ensures d hand own) ∙ c.if-may_prepare.true) in
    let some : is_some (f c.propose-item.result) ≡ true = ap is_some (sym here) in
    here ∙ ap f c.propose-item.is
    ∙ left_here propose_of (agree.prepares_one me x c.args.number)
    c.items-propose-items.result.now c.loop-propose.propose-index c.propose-item.result c.loop-propose-test.true (ap (λ m. is_some (f m)) (sym c.propose-item.is) ∙ some)
    ∙ c.loop-propose.invariant d hand own

pub loop-propose-preserved : goal.loop-propose-preserved
loop-propose-preserved c = λ d hand own.
    let me = self_of d hand own in
    let x = node_of c.args.keeps.now in
    let f = λ (m : OwnedPropose). agree.prepares_one me x c.args.number (propose_of m) in
    let none : is_some (f c.propose-item.result) ≡ false = may_not me x c.args.number (propose_of c.propose-item.result) (sym (c.may_prepare.ensures d hand own) ∙ c.if-may_prepare.false) in
    left_next propose_of (agree.prepares_one me x c.args.number)
    c.items-propose-items.result.now c.loop-propose.propose-index c.propose-item.result c.loop-propose-test.true (ap (λ m. is_some (f m)) (sym c.propose-item.is) ∙ none)
    ∙ c.loop-propose.invariant d hand own
