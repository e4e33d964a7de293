-- The rule stays the node's, and each frame that it sends can be sent.
use Rattle.std.proofs.Common.{ap, subst, sym, ◌∙◌, IsTrue}
use Rattle.fw_base.specs.Sizes.{accepted}
use Rattle.fw_kept.specs.Kept.{IsFor}
use Rattle.fw_agree.specs.Standing.{rule_of}
use Rattle.fw_agree.proofs.Sends.{all_sendable}
use Rattle.fw_agree.proofs.agree.AgreeNodeNode.take.Goals as goal

pub returns-then-self-clause-sends : goal.returns-then-self-clause-sends
returns-then-self-clause-sends g c =
    all_sendable c.args.self.now (subst (λ p. IsTrue (accepted p)) (ap (λ n. n.params) c.self.view_is) c.self.invariant.0.sizes)

pub returns-then-is_err-clause-sends : goal.returns-then-is_err-clause-sends
returns-then-is_err-clause-sends g c =
    all_sendable c.args.self.now (subst (λ p. IsTrue (accepted p)) (ap (λ n. n.params) c.self.view_is) c.self.invariant.0.sizes)

pub returns-clause-rule : goal.returns-clause-rule
returns-clause-rule g c = ap rule_of c.self.view_is

pub returns-clause-sends : goal.returns-clause-sends
returns-clause-sends g c =
    all_sendable c.args.self.now (subst (λ p. IsTrue (accepted p)) (ap (λ n. n.params) c.self.view_is) c.self.invariant.0.sizes)

pub invariant_of-self : goal.invariant_of-self
invariant_of-self g c = (c.self.invariant.0, subst (λ p. IsFor p c.takes-taken.new.keeps) (c.requires.sizes ∙ sym (ap (λ n. n.params) c.self.view_is)) c.takes-taken.ensures.sizes)

pub invariant_of-self-2 : goal.invariant_of-self-2
invariant_of-self-2 g c = (c.self.invariant.0, subst (λ p. IsFor p c.takes-taken.new.keeps) (c.requires.sizes ∙ sym (ap (λ n. n.params) c.self.view_is)) c.takes-taken.ensures.sizes)
